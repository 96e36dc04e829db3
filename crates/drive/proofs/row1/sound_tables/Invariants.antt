-- r is that of the first i tables (every_take), in the view (every_mapped); a table is one part of the array (tables_at).
use mathlib.Core.Path.{◌≡◌}
use mathlib.Core.Bool.{true}
use mathlib.Core.List.{List}
use Prim.Native.Nat.{ℕ}
use lib.ListN.{take}
use Rattle.lemmas.specs.Lists.{every}
use Rattle.rules.specs.Drive.{sound_partition}
use Rattle.state.specs.Table.{partition_view}
use Rattle.drive.specs.View.{objects_fit, tables_in}
use Rattle.keyring.specs.Keys.{partition_count}
use Rattle.drive.proofs.row1.sound_tables.Given as goal

abbrev pub invariant-loop-i : goal.invariant-loop-i
invariant-loop-i l = (l.r ≡ every (λ (t : List ℕ). sound_partition l.quarter (partition_view t)) (take l.i (tables_in partition_count l.tables)))
    × (l.r ≡ true → every objects_fit (take l.i (tables_in partition_count l.tables)) ≡ true)
