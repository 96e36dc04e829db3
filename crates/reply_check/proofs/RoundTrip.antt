-- Demand 2 over the code's own contracts: `check` accepts the reply that the gate's rules give to a built frame, with the
-- operation's result. From `CheckMet` alone.
use mathlib.Core.Path.{◌∙◌, ◌≡◌, ap}
use mathlib.Core.List.{List}
use Prim.Native.Nat.{ℕ}
use lib.ListN.{take}
use Rattle.lemmas.specs.RowTable.{first_row}
use Rattle.rules.specs.Client.{build_rows, check, Checked, frame_of}
use Rattle.rules.specs.Drive.{Drive, refresh}
use Rattle.rules.specs.Frame.{fields, operation_of}
use Rattle.rules.specs.Gate.{Call, gate}
use Rattle.rules.specs.Operations.{credential_key, perform}
use Rattle.rules.specs.Scope.{drive_scope}
use Rattle.rules.proofs.RepliesBack.{replies_back}
use Rattle.reply_check.specs.Met.{CheckMet, Slice}

-- the reply check's answer to a grant's reply
pub reply-accepted : (d : Drive) (v : List ℕ) (c : Call) (a b p k s : List ℕ) (reply : Slice) (row : ℕ) (part : Slice)
    → first_row (build_rows a b p k s) ≡ 0 → c.frame ≡ frame_of a b p k → (gate d v c).row ≡ 0
    → k ≡ credential_key (refresh c.clock d).tables.keys (fields c.frame)
    → reply.now ≡ take (gate d v c).length (gate d v c).space
    → CheckMet a b k reply row part
    → (row ≡ 0) × (part.now ≡ (perform (operation_of (fields c.frame))
    (drive_scope (refresh c.clock d) (fields c.frame).cred) (fields c.frame) v).result)
reply-accepted d v c a b p k s reply row part g e z h l m =
    let t = ap (check a b k) l ∙ (replies_back d v c a b p k s g e z h).accepted in
    (m.row ∙ ap Checked.row t, m.result ∙ ap Checked.result t)
