-- Document 02, change 3, of calls: "a new area now starts at a multiple of 16 from the quarter's start; row 1 asks for no such
-- step." The placing rule itself is in BestFit.antt. Proved in proofs/: `any-start`, `row20-exact`, `places`, `starts_kept`,
-- `on_steps`.
-- d: a drive. m: a medium. c: a call. s: drive and medium. q: the quarter.
use Rattle.std.specs.Prelude.{◌≡◌, ◌↔◌, ◌⊎◌, true, ◌+◌, ◌<◌, ◌≤◌, ℕ, length}
use mathlib.Core.List.{[], ◌++◌, ◌∷◌, List, Memᴰ}
use Rattle.rules.specs.declared.Credential.{Credential}
use Rattle.rules.specs.declared.Object.{Object}
use Rattle.rules.specs.declared.Operation.TheVariants.{Create}
use Rattle.rules.specs.declared.Request.{Request}
use Rattle.rules.specs.BestFit.{Chosen, extent_step, Multiple, NoGap}
use Rattle.rules.specs.Demands.{after, call_fields, call_operation, Has, State}
use Rattle.rules.specs.Drive.{Drive, format, most_objects, Partition, partition_at, quarter, sound, sound_partition}
use Rattle.rules.specs.Gate.{Call, gate}
use Rattle.rules.specs.Operations.{created, next_version}
use Rattle.rules.specs.Rows.{row20}
use Rattle.rules.specs.Scope.{drive_scope}

-- ---- "row 1 asks for no such step": a sound partition is sound with an object more, wherever that starts, as long as it is
-- inside the quarter and meets no other
abbrev pub AnyStart : Type 0
AnyStart =
    (q number size start : ℕ) (p : Partition Object)
    → sound_partition q p ≡ true
    → length p.objects < most_objects
    → 1 ≤ number
    → 1 ≤ size
    → start + size ≤ q
    → ((a : Object) → Memᴰ a p.objects → (a.number ≡ number → ⊥)
    × ((a.start + a.size ≤ start) ⊎ (start + size ≤ a.start)))
    → sound_partition q (created number size start p) ≡ true

-- ---- a create, put to any drive, wherever its areas start
-- the partition that a call's frame names
abbrev pub partition_for : Drive → Call → Partition Object
partition_for d c = partition_at d.tables (call_fields c).cred.partition

-- "Row 20 is met exactly when no gap fits."
abbrev pub Row20Exact : Type 0
Row20Exact =
    (d : Drive) (c : Credential) (r : Request) → sound d ≡ true
    → (row20 (drive_scope d c) r ≡ true)
    ↔ ((r.operation ≡ 5) × NoGap extent_step (quarter d.size) (partition_at d.tables c.partition).objects r.B)

-- the new object, behind those that were there, where the placing rule says
pub record NewExtent (d left : Drive) (c : Call) (number size : ℕ) : Type 0 where
  pub start : ℕ
  pub chosen : Chosen extent_step (quarter d.size) (partition_for d c).objects size start
  pub joins : (partition_for left c).objects
      ≡ (partition_for d c).objects
      ++ (record { number = number; version = next_version (partition_for d c); size = size; start = start } ∷ [])

-- one call: refused by row 20, it is a create for which no gap fits; a create granted has such a new area
pub record Places (d : Drive) (m : List ℕ) (c : Call) : Type 0 where
  pub refused : (gate d m c).row ≡ 20
      → (number : ℕ) × (size : ℕ) × (call_operation c ≡ Create number size)
      × NoGap extent_step (quarter d.size) (partition_for d c).objects size
  pub granted : (number size : ℕ) → (gate d m c).row ≡ 0 → call_operation c ≡ Create number size
      → NewExtent d (gate d m c).drive c number size

abbrev pub AllPlaces : Type 0
AllPlaces = (d : Drive) (m : List ℕ) (c : Call) → length d.tables.partitions ≡ 4 → Places d m c

-- ---- a list of calls
-- an object's start is a multiple of 16 from the quarter's start
abbrev pub OnStep : Object → Type 0
OnStep a = Multiple extent_step a.start

-- put to any drive: an object that is there after the calls was there before them, with the same start, or is on a step
abbrev pub StartsKept : Type 0
StartsKept =
    (s : State) (calls : List Call) (p : ℕ) (a : Object) → Has (after s calls) p a
    → OnStep a ⊎ ((b : Object) × Has s p b × (b.number ≡ a.number) × (b.start ≡ a.start))

-- so in every list of calls from a format every object is on a step
abbrev pub OnSteps : Type 0
OnSteps =
    (medium : List ℕ) (F : ℕ) (master drive : List ℕ) (calls : List Call) (p : ℕ) (a : Object)
    → Has (after (record { drive = (format medium F master drive).drive; medium = (format medium F master drive).medium }) calls) p a
    → OnStep a
