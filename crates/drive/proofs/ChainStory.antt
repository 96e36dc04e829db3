-- The customer's story over the code's own contract: the rules' own on the same calls, demand 3's reads, and its nonces.
use mathlib.Core.Path.{◌∙◌, ◌≡◌, ap, subst, sym}
use mathlib.Core.List.{[], ◌++◌, ◌∷◌, append_assoc, append-nil, List, map}
use Prim.Native.Nat.{ℕ}
use lib.ListN.{length}
use Rattle.lemmas.specs.ListLaws.{map-append}
use Rattle.lemmas.specs.Lists.{part}
use Rattle.rules.specs.Demands.{call_fields, call_operation, fed, Nonce, nonce, State}
use Rattle.rules.specs.declared.Operation.TheVariants.{Read}
use Rattle.rules.specs.Frame.{entry, fields, memory_index}
use Rattle.rules.specs.Gate.{Call}
use Rattle.rules.specs.Ledger.{bytes_of, Fed, Ledger, ledger, ledger_start}
use Rattle.rules.specs.Operations.{head_size}
use Rattle.rules.specs.Story.{OfEveryList, OneLog, OpensNothing, VersionsOnce}
use Rattle.rules.proofs.OneLog.{one_log_lem, versions-once}
use Rattle.rules.proofs.OpensNothing.{opens-nothing}
use Rattle.drive.specs.Answers.{Formatted}
use Rattle.drive.specs.Chain.{Chain, CallMade, fed_by, DriveState, Granted, MadeFromFormat}
use Rattle.drive.specs.ChainStory.{AllOfStory}
use Rattle.drive.proofs.Calls.{calls_of, chain-fed, formatted}
use Rattle.drive.proofs.Demand3.{demand3}

-- a claim on what the rules' gate feeds the ledger is one on what the code feeds it
fed_claim : (Claim : ℕ → Ledger → List Fed → Type 0) → OfEveryList Claim
    → (medium : List ℕ) (F : ℕ) (master key : List ℕ) (r : Formatted) (zeroed : List ℕ) (calls : List CallMade)
    → MadeFromFormat medium F master key r zeroed calls
    → Claim (length medium) (ledger_start F master key) (map fed_by calls)
fed_claim Claim all medium F master key r zeroed calls made =
    subst (Claim (length medium) (ledger_start F master key))
    (ap (λ (s : State). fed s (calls_of calls)) (formatted medium F master key r zeroed made.format)
    ∙ chain-fed first calls [] (subst (Chain first) (sym (append-nil calls)) made.chain))
    (all medium F master key (calls_of calls) (sym made.format.row ∙ made.row))
  where
    first : DriveState
    first = record { drive = r.drive; medium = zeroed }

-- one frame, one nonce
same_nonce : (c d : Call) → c.frame ≡ d.frame → nonce c ≡ nonce d
unfolding nonce
same_nonce c d e = ap {B = Nonce} (λ (f : List ℕ). record {
  memory = memory_index (fields f).cred;
  entry = entry (fields f).cred (fields f).req;
}) e

pub story : AllOfStory
story medium F master key r zeroed calls made = record {
  versions = fed_claim VersionsOnce versions-once medium F master key r zeroed calls made;
  one_log = one;
  shown = λ before between later c d p n v A B e uc ud rc rd o.
      found before between later c d A B e ud.granted o
      ∙ ap (λ (b : List ℕ). part b A B) (one.bytes (map fed_by before) (map fed_by between) (map fed_by later) (fed_by c) (fed_by d) p n v
      (fed-split before between later c d e) uc ud rc rd);
  member_shown = λ before between later c d p n k v A B e uc ud t rc rd o.
      found before between later c d A B e ud.granted o
      ∙ ap (λ (b : List ℕ). part b A B) (one.member_bytes (map fed_by before) (map fed_by between) (map fed_by later) (fed_by c) (fed_by d) p n k v
      (fed-split before between later c d e) uc ud t rc rd);
  counts_once = λ before between later c d e gc gd same.
      (demand3 medium F master key r zeroed calls made).no_repeat before between later c d e gc gd (same_nonce c.call d.call same);
  opens_nothing = fed_claim OpensNothing opens-nothing medium F master key r zeroed calls made;
}
  where
    one : OneLog (length medium) (ledger_start F master key) (map fed_by calls)
    one = fed_claim OneLog one_log_lem medium F master key r zeroed calls made

    fed-split : (before between later : List CallMade) (c d : CallMade) → calls ≡ before ++ (c ∷ (between ++ (d ∷ later)))
        → map fed_by calls ≡ map fed_by before ++ (fed_by c ∷ (map fed_by between ++ (fed_by d ∷ map fed_by later)))
    fed-split before between later c d e =
        ap (map fed_by) e ∙ map-append fed_by before (c ∷ (between ++ (d ∷ later)))
        ∙ ap (λ (f : List Fed). map fed_by before ++ (fed_by c ∷ f)) (map-append fed_by between (d ∷ later))

    -- what d reads, by the ledger behind c and what lies between
    found : (before between later : List CallMade) (c d : CallMade) (A B : ℕ) → calls ≡ before ++ (c ∷ (between ++ (d ∷ later)))
        → Granted d → call_operation d.call ≡ Read A B
        → part d.space head_size B
        ≡ part (bytes_of (ledger (length medium) (ledger_start F master key) (map fed_by before ++ map fed_by (c ∷ between))) (call_fields d.call)) A B
    found before between later c d A B e g o =
        (demand3 medium F master key r zeroed calls made).shown (before ++ (c ∷ between)) later d A B
        (e ∙ sym (append_assoc before (c ∷ between) (d ∷ later))) g o
        ∙ ap (λ (f : List Fed). part (bytes_of (ledger (length medium) (ledger_start F master key) f) (call_fields d.call)) A B)
        (map-append fed_by before (c ∷ between))
