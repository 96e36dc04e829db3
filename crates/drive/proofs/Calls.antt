-- A chain of calls as the rules see it: what it leaves, returns and feeds the ledger is what document 01's gate does
-- on the same calls.
use mathlib.Core.Path.{◌∙◌, ◌≡◌, ap, refl, sym}
use mathlib.Core.List.{[], ◌++◌, ◌∷◌, List, map}
use Prim.Native.Nat.{ℕ}
use Rattle.rules.specs.Demands as rules
use Rattle.rules.specs.Demands.{answer, fed, step}
use Rattle.rules.specs.Drive.{format}
use Rattle.rules.specs.Gate.{Call}
use Rattle.rules.specs.Ledger.{Fed}
use Rattle.drive.specs.Answers.{Formatted}
use Rattle.drive.specs.Met.{FormatMet}
use Rattle.drive.specs.Chain.{after, Chain, CallMade, fed_by, DriveState, left_by_call, CallMet, viewed}

-- the calls that were made
abbrev pub calls_of : List CallMade → List Call
calls_of cs = map CallMade.call cs

-- one call
step_met : (s : DriveState) (c : CallMade) → CallMet s c → step (viewed s) c.call ≡ viewed (left_by_call c)
unfolding step answer
step_met s c m = λ i. record { drive = sym m.drive i; medium = sym m.medium i }

pub row_met : (s : DriveState) (c : CallMade) → CallMet s c → (answer (viewed s) c.call).row ≡ c.answer.row
unfolding answer
row_met s c m = sym m.row

pub space_met : (s : DriveState) (c : CallMade) → CallMet s c → (answer (viewed s) c.call).space ≡ c.space
unfolding answer
space_met s c m = sym m.space

-- all: drive and medium after them, and what they feed the ledger
pub chain_after : (s : DriveState) (before later : List CallMade) → Chain s (before ++ later)
    → rules.after (viewed s) (calls_of before) ≡ viewed (after s before)
unfolding rules.after after Chain
chain_after s [] later k = refl
chain_after s (c ∷ cs) later k =
    ap (λ (t : rules.State). rules.after t (calls_of cs)) (step_met s c k.0)
    ∙ chain_after (left_by_call c) cs later k.1

pub chain-fed : (s : DriveState) (before later : List CallMade) → Chain s (before ++ later)
    → fed (viewed s) (calls_of before) ≡ map fed_by before
unfolding fed Chain
chain-fed s [] later k = refl
chain-fed s (c ∷ cs) later k =
    (λ i. record { frame = c.call.frame; clock = c.call.clock; row = row_met s c k.0 i }
    ∷ fed (step_met s c k.0 i) (calls_of cs))
    ∙ ap (λ (l : List Fed). fed_by c ∷ l) (chain-fed (left_by_call c) cs later k.1)

-- and the rest of a chain is one
pub chain_rest : (s : DriveState) (before later : List CallMade) → Chain s (before ++ later) → Chain (after s before) later
unfolding after Chain
chain_rest s [] later k = k
chain_rest s (c ∷ cs) later k = chain_rest (left_by_call c) cs later k.1

-- drive and medium of a format
pub formatted : (medium : List ℕ) (F : ℕ) (master key : List ℕ) (r : Formatted) (zeroed : List ℕ)
    → FormatMet medium F master key r zeroed
    → ◌≡◌ {A = rules.State} (record {
      drive = (format medium F master key).drive;
      medium = (format medium F master key).medium;
    }) (viewed (record { drive = r.drive; medium = zeroed }))
formatted medium F master key r zeroed m = λ i. record { drive = sym m.drive i; medium = sym m.medium i }
