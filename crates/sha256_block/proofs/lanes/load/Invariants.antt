-- The words stand one after the other, those of a turn in eight lanes.
use Rattle.std.proofs.Common.{◌+◌, ◌*◌, drop}
use Rattle.sha256_block.specs.Lanes.{Lanes}
use Rattle.sha256_block.proofs.lanes.load.Given as goal

abbrev pub invariant-loop-l : goal.invariant-loop-l
invariant-loop-l l = Lanes (8 * l.t + l.l) l.w (drop l.at l.m)

abbrev pub invariant-loop-t : goal.invariant-loop-t
invariant-loop-t l = Lanes (8 * l.t) l.w (drop l.at l.m)
