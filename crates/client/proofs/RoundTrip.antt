-- Demand 2 over the code's own contracts: what `build` wrote, `wire::parse` reads as the same fields. From `BuildMet`
-- and `frame_answer` alone. The reply's way back: `reply-accepted` (reply_check).
use mathlib.Core.Path.{◌∙◌, ◌≡◌, ap, sym}
use mathlib.Core.List.{List}
use Prim.Native.Nat.{ℕ}
use lib.ListN.{take}
use Rattle.lemmas.specs.RowTable.{first_row}
use Rattle.rules.specs.Client.{build, build_rows, frame_of}
use Rattle.rules.specs.Frame.{credential_at, credential_length, fields, request_at, starts_behind}
use Rattle.rules.proofs.Demand2.{build_zero}
use Rattle.rules.proofs.RoundTrip.{reads_back}
use Rattle.wire.specs.Parse.{answer_by, fields_of, frame_row, frame_answer}
use Rattle.client.specs.Answers.{Built}
use Rattle.client.specs.Met.{BuildMet}

module _ (a b p k s : List ℕ) (r : Built) (after : List ℕ) (m : BuildMet a b p k s r after) (z : r.row ≡ 0) where
  -- no row of the builder applies, and what it wrote is document 01's frame
  pub built-accepted : first_row (build_rows a b p k s) ≡ 0
  built-accepted = build_zero a b p k s (sym m.row ∙ z)

  pub built-frame : take r.length after ≡ frame_of a b p k
  built-frame =
      ap (λ (n : ℕ). take n after) m.length ∙ ap (take (build a b p k s).length) m.space
      ∙ (reads_back a b p k s built-accepted).frame

  -- the parse answers with the fields of that credential and request, and with the places of its parts
  pub built-parsed : frame_answer (take r.length after)
      ≡ fields_of (credential_at a 0) (request_at b 0) (starts_behind (credential_length (credential_at a 0)) (request_at b 0))
  unfolding frame_answer frame_row answer_by fields
  built-parsed =
      let t = reads_back a b p k s built-accepted in
      ap frame_answer built-frame
      ∙ rw t.accepted (λ i.
      let x = t.fields i in
      fields_of x.cred x.req (starts_behind (credential_length x.cred) x.req))
