-- Change 5 of document 02 over the code's own contract: which operation tables a call moves, put to any record; and that
-- every table is good that calls of format and gate which keep their promises reach.
-- Proved in proofs/: `table_moves`, `good_reached`.
-- s: drive and medium. c: a call made. p: a partition.
use Rattle.std.specs.Prelude.{◌≡◌, true, ◌++◌, List, ℕ}
use Rattle.rules.specs.declared.Operation.TheVariants.{LoadTable}
use Rattle.rules.specs.Demands.{call_fields, call_operation}
use Rattle.rules.specs.Needs.{good_needs, needs_at}
use Rattle.rules.specs.OperationTable.{partition_number, table_of}
use Rattle.drive.specs.Answers.{Formatted}
use Rattle.drive.specs.View.{view}
use Rattle.drive.specs.Chain.{after, CallMade, CallMet, DriveState, Granted, MadeFromFormat}

-- one call
pub record TableMoves (s : DriveState) (c : CallMade) : Type 0 where
  -- a granted operation 8 loads its data, which is a good table
  pub loads : Granted c → call_operation c.call ≡ LoadTable
      → (table_of (view c.answer.drive) (partition_number c.call) ≡ needs_at (call_fields c.call).payload)
      × (good_needs (needs_at (call_fields c.call).payload) ≡ true)
  -- it changes no other partition's table,
  pub others : (p : ℕ) → (p ≡ partition_number c.call → ⊥)
      → table_of (view c.answer.drive) p ≡ table_of (view s.drive) p
  -- and any other call changes none
  pub stays : (Granted c → call_operation c.call ≡ LoadTable → ⊥) → (p : ℕ)
      → table_of (view c.answer.drive) p ≡ table_of (view s.drive) p

abbrev pub AllOfTableMoves : Type 0
AllOfTableMoves = (s : DriveState) (c : CallMade) → CallMet s c → TableMoves s c

-- of the calls made from drive and medium s on: after each of them, and before the first
abbrev pub GoodReached : DriveState → List CallMade → Type 0
GoodReached s calls =
    (before later : List CallMade) → calls ≡ before ++ later → (p : ℕ)
    → good_needs (table_of (view (after s before).drive) p) ≡ true

-- for every format that returned row 0 and every list of calls
abbrev pub AllOfGoodReached : Type 0
AllOfGoodReached =
    (medium : List ℕ) (F : ℕ) (master key : List ℕ) (r : Formatted) (zeroed : List ℕ) (calls : List CallMade)
    → MadeFromFormat medium F master key r zeroed calls → GoodReached (record { drive = r.drive; medium = zeroed }) calls
