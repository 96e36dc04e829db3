-- Demand 3 over the code's own contract: from `FormatMet` and `GateMet` alone, by the rules' own demand 3 on the same
-- calls.
use mathlib.Core.Path.{◌∙◌, ◌≡◌, ap, subst, subst₂, sym}
use mathlib.Core.List.{◌++◌, ◌∷◌, append_assoc, List}
use Prim.Native.Nat.{ℕ}
use lib.ListN.{length}
use Rattle.lemmas.specs.ListLaws.{map-append}
use Rattle.lemmas.specs.Lists.{part}
use Rattle.lemmas.specs.RowTable.{first_row}
use Rattle.rules.specs.Demands as rules
use Rattle.rules.specs.Demands.{Agrees, answer, call_fields, State}
use Rattle.rules.specs.Gate.{Call}
use Rattle.rules.specs.Ledger.{bare_scope, bytes_of, clocked, Ledger, ledger, ledger_group, ledger_scope, ledger_start}
use Rattle.rules.specs.Rows.{bounds}
use Rattle.rules.proofs.Demand as rules_proofs
use Rattle.drive.specs.Chain.{after, AllOfDemand3, ledger_after_calls, Chain, Demand3, CallMade, Granted, DriveState, viewed}
use Rattle.drive.proofs.Calls.{calls_of, chain_after, chain-fed, chain_rest, formatted, row_met, space_met}

-- the calls of two parts of a list
calls-append : (before later : List CallMade) → calls_of (before ++ later) ≡ calls_of before ++ calls_of later
calls-append before later = map-append CallMade.call before later

module _ (M : ℕ) (s : DriveState) (l : Ledger) (calls : List CallMade) (k : Chain s calls)
    (t : rules.Demand3 M (viewed s) l (calls_of calls)) where
  chain_of : (before later : List CallMade) → calls ≡ before ++ later → Chain s (before ++ later)
  chain_of before later e = subst (Chain s) e k

  split : (before later : List CallMade) (c : CallMade) → calls ≡ before ++ (c ∷ later)
      → calls_of calls ≡ calls_of before ++ (c.call ∷ calls_of later)
  split before later c e = ap calls_of e ∙ calls-append before (c ∷ later)

  -- the ledger's book
  booked : (before later : List CallMade) → calls ≡ before ++ later
      → rules.ledger_after_calls M (viewed s) l (calls_of before) ≡ ledger_after_calls M l before
  booked before later e = ap (ledger M l) (chain-fed s before later (chain_of before later e))

  -- a grant of the code is one of the rules
  granted : (before later : List CallMade) (c : CallMade) → calls ≡ before ++ (c ∷ later) → Granted c
      → rules.Granted (viewed s) (calls_of before) c.call
  unfolding Chain
  granted before later c e g =
      ap (λ (u : State). (answer u c.call).row) (chain_after s before (c ∷ later) (chain_of before (c ∷ later) e))
      ∙ row_met (after s before) c (chain_rest s before (c ∷ later) (chain_of before (c ∷ later) e)).0
      ∙ g

  spaced : (before later : List CallMade) (c : CallMade) → calls ≡ before ++ (c ∷ later)
      → (answer (rules.after (viewed s) (calls_of before)) c.call).space ≡ c.space
  unfolding Chain
  spaced before later c e =
      ap (λ (u : State). (answer u c.call).space) (chain_after s before (c ∷ later) (chain_of before (c ∷ later) e))
      ∙ space_met (after s before) c (chain_rest s before (c ∷ later) (chain_of before (c ∷ later) e)).0

  demand : Demand3 M s l calls
  demand = record {
    no_repeat = λ before between later b c e gb gc.
        t.no_repeat (calls_of before) (calls_of between) (calls_of later) b.call c.call
        (split before (between ++ (c ∷ later)) b e
        ∙ ap (λ (r : List Call). calls_of before ++ (b.call ∷ r)) (calls-append between (c ∷ later)))
        (granted before (between ++ (c ∷ later)) b e gb)
        (subst (λ (r : List Call). rules.Granted (viewed s) r c.call) (calls-append before (b ∷ between))
        (granted (before ++ (b ∷ between)) later c (e ∙ regroup before between later b c) gc));
    kept = λ before later c e g.
        subst (λ (b : Ledger). first_row (bounds (bare_scope (ledger_scope M (clocked c.call.clock b) (call_fields c.call).cred))
        (ledger_group (ledger_scope M (clocked c.call.clock b) (call_fields c.call).cred) (call_fields c.call).cred)
        (call_fields c.call)) ≡ 0)
        (booked before (c ∷ later) e)
        (t.kept (calls_of before) (calls_of later) c.call (split before later c e) (granted before later c e g));
    shown = λ before later c A B e g o.
        subst₂ (λ (r : List ℕ) (b : Ledger). part r 8 B ≡ part (bytes_of b (call_fields c.call)) A B)
        (spaced before later c e) (booked before (c ∷ later) e)
        (t.shown (calls_of before) (calls_of later) c.call A B (split before later c e) (granted before later c e g) o);
    agrees = λ before later e.
        subst₂ (Agrees M) (chain_after s before later (chain_of before later e)) (booked before later e)
        (t.agrees (calls_of before) (calls_of later) (ap calls_of e ∙ calls-append before later));
  }
    where
      regroup : (before between later : List CallMade) (b c : CallMade)
          → before ++ (b ∷ (between ++ (c ∷ later))) ≡ (before ++ (b ∷ between)) ++ (c ∷ later)
      regroup before between later b c = sym (append_assoc before (b ∷ between) (c ∷ later))

pub demand3 : AllOfDemand3
demand3 medium F master key r zeroed calls made =
    demand (length medium) (record { drive = r.drive; medium = zeroed }) (ledger_start F master key) calls made.chain
    (subst (λ (u : State). rules.Demand3 (length medium) u (ledger_start F master key) (calls_of calls))
    (formatted medium F master key r zeroed made.format)
    (rules_proofs.demand3 medium F master key (calls_of calls) (sym made.format.row ∙ made.row)))
