-- The first i times eight blocks are worked in.
use Rattle.std.proofs.Common.{◌≡◌, ◌*◌, drop}
use Rattle.sha256_block.specs.Sha256.{blocks}
use Rattle.sha256_block.proofs.eights_from.Given as goal

abbrev pub invariant-loop-i : goal.invariant-loop-i
invariant-loop-i l = l.v ≡ blocks (8 * l.i) l.initial.v (drop l.from l.m)
