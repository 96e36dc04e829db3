-- The first i blocks are worked in.
use Rattle.std.proofs.Common.{◌≡◌, drop}
use Rattle.sha256_block.specs.Sha256.{blocks}
use Rattle.sha256_block.proofs.blocks_from.Given as goal

abbrev pub invariant-loop-i : goal.invariant-loop-i
invariant-loop-i l = l.v ≡ blocks l.i l.initial.v (drop l.from l.m)
