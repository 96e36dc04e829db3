-- The gate leaves a sound drive sound, whatever the drive, the medium and the call (`gate-sound`).
use mathlib.Core.Path.{◌≡◌, subst, sym}
use mathlib.Core.Bool.{Bool, cond, false, true}
use mathlib.Core.List.{List}
use Prim.Native.Nat.{ℕ}
use native.Mathlib.Decide.{ℕ_discrete}
use lib.Dec.{leb}
use Rattle.lemmas.specs.Lists.{every}
use Rattle.lemmas.specs.RowTable.{first_row, Row}
use Rattle.lemmas.specs.Tests.{◌is◌, and_l, and_r, both}
use Rattle.rules.specs.declared.Object.{Object}
use Rattle.rules.specs.Drive.{Drive, largest_medium, new_high_water, quarter, refresh, sound}
use Rattle.rules.specs.Frame.{Fields, fields, operation_of}
use Rattle.rules.specs.Gate.{Answer, Call, gate, granted}
use Rattle.rules.specs.Operations.{perform}
use Rattle.rules.specs.Rows.{rows}
use Rattle.rules.specs.Scope.{drive_with_scope, Scope, drive_scope}
use Rattle.rules.proofs.Answers.{gate-granted, gate-refused}
use Rattle.rules.proofs.Clear.{clear22, cleared, grant}
use Rattle.rules.proofs.Memories.{short, short_entered, short_kept}
use Rattle.rules.proofs.Sound.{at_sound, back_sound, scope-sound, SoundScope, SoundTables}

-- a sound drive's size, partitions and memories
pub small_of : (d : Drive) → sound d ≡ true → leb d.size largest_medium ≡ true
unfolding sound
small_of d h = search (and_l, and_r)

pub tables_of_lem : (d : Drive) → sound d ≡ true → SoundTables (quarter d.size) d.tables
unfolding sound
tables_of_lem d h = search (and_l, and_r)

pub memories_of_lem : (d : Drive) → sound d ≡ true → every short d.memories ≡ true
unfolding sound
memories_of_lem d h = search (and_l, and_r)

-- the new mark, without the outlived entries
pub refresh-sound : (clock : ℕ) (d : Drive) → sound d ≡ true → sound (refresh clock d) ≡ true
unfolding sound refresh
refresh-sound clock d h =
    both (both (small_of d h) (tables_of_lem d h))
    (short_kept (new_high_water d.tables.high_water clock) d.memories (memories_of_lem d h))

module _ (d : Drive) (m : List ℕ) (c : Call) (h : sound d ≡ true) where
  abbrev table : List Row
  table = rows d m c.frame c.clock c.space

  abbrev x : Fields
  x = fields c.frame

  abbrev fresh : Drive
  fresh = refresh c.clock d

  -- a grant, row 1, any other refusal
  granted-sound : first_row table ≡ 0
      → sound (drive_with_scope x.cred (granted (drive_scope fresh x.cred) m x c.space).drive fresh) ≡ true
  unfolding sound granted
  granted-sound g =
      let k : sound fresh ≡ true = refresh-sound c.clock d h in
      let free = cleared d m c.frame c.clock c.space g in
      let s : Scope Object = drive_scope fresh x.cred in
      let p : SoundScope s = at_sound s.quarter fresh.tables x.cred.partition (tables_of_lem fresh k) in
      both (both (small_of fresh k)
      (back_sound s.quarter x (perform (operation_of x) s x m).scope fresh.tables
      (scope-sound (operation_of x) s x m p (grant free p).creates) (tables_of_lem fresh k)))
      (short_entered fresh x (clear22 free) (memories_of_lem fresh k))

  left_sound : (b : Bool) → sound (cond b d (refresh c.clock d)) ≡ true
  left_sound true = h
  left_sound false = refresh-sound c.clock d h

  pub gate-sound : sound (gate d m c).drive ≡ true
  unfolding granted
  gate-sound = go (ℕ_discrete (first_row table) 0)
    where
      go : Dec (first_row table ≡ 0) → sound (gate d m c).drive ≡ true
      go (yes e) = subst (λ (a : Answer Drive). sound a.drive ≡ true) (sym (gate-granted d m c e)) (granted-sound e)
      go (no e) = subst (λ (a : Answer Drive). sound a.drive ≡ true) (sym (gate-refused d m c e))
          (left_sound (first_row table is 1))
