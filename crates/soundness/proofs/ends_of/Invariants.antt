-- The first i of the array are the first i ends (map_took), and each size so far is narrow (each_more).
use Rattle.std.proofs.Common.{◌≡◌, true, map, length, take}
use Rattle.state.specs.Table.{range}
use Rattle.soundness.specs.Spans.{end_at, narrow_at, each}
use Rattle.rules.specs.Drive.{most_objects}
use Rattle.soundness.proofs.ends_of.Given as goal

abbrev pub invariant-loop-i : goal.invariant-loop-i
invariant-loop-i l = (length l.ends ≡ most_objects) × (take l.i l.ends ≡ map (end_at l.starts l.sizes) (take l.i (range 0 most_objects))) × (each (narrow_at l.sizes) l.i ≡ true)
