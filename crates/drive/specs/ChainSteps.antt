-- Change 3 of document 02 over the code's own contract: "a new area now starts at a multiple of 16 from the quarter's start; row
-- 1 asks for no such step." Of one call, put to any record, wherever its areas start: row 20 and a create's new area. Of any
-- calls of format and gate that keep their promises: after each of them every object is on a step.
-- Proved in proofs/: `places`, `on_steps`.
-- s: drive and medium. c: a call made.
use Rattle.std.specs.Prelude.{◌≡◌, ◌++◌, List, ℕ}
use Rattle.rules.specs.declared.Object.{Object}
use Rattle.rules.specs.declared.Operation.TheVariants.{Create}
use Rattle.rules.specs.BestFit.{extent_step, NoGap}
use Rattle.rules.specs.Demands.{call_operation, Has}
use Rattle.rules.specs.Drive.{quarter}
use Rattle.rules.specs.Steps.{NewExtent, OnStep, partition_for}
use Rattle.drive.specs.Answers.{Formatted}
use Rattle.drive.specs.View.{view}
use Rattle.drive.specs.Chain.{after, CallMade, CallMet, DriveState, Granted, MadeFromFormat, viewed}

-- one call: refused by row 20, it is a create for which no gap fits; a create granted has the new area that the rule names
pub record Places (s : DriveState) (c : CallMade) : Type 0 where
  pub refused : c.answer.row ≡ 20
      → (number : ℕ) × (size : ℕ) × (call_operation c.call ≡ Create number size)
      × NoGap extent_step (quarter s.drive.size) (partition_for (view s.drive) c.call).objects size
  pub granted : (number size : ℕ) → Granted c → call_operation c.call ≡ Create number size
      → NewExtent (view s.drive) (view c.answer.drive) c.call number size

abbrev pub AllOfPlaces : Type 0
AllOfPlaces = (s : DriveState) (c : CallMade) → CallMet s c → Places s c

-- of the calls made from drive and medium s on: after each of them, and before the first
abbrev pub OnSteps : DriveState → List CallMade → Type 0
OnSteps s calls =
    (before later : List CallMade) → calls ≡ before ++ later → (p : ℕ) (a : Object) → Has (viewed (after s before)) p a → OnStep a

-- for every format that returned row 0 and every list of calls
abbrev pub AllOfOnSteps : Type 0
AllOfOnSteps =
    (medium : List ℕ) (F : ℕ) (master key : List ℕ) (r : Formatted) (zeroed : List ℕ) (calls : List CallMade)
    → MadeFromFormat medium F master key r zeroed calls → OnSteps (record { drive = r.drive; medium = zeroed }) calls
