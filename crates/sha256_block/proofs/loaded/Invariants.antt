-- The words read so far stand at the start of the array.
use Rattle.std.proofs.Common.{◌≡◌, length, take, drop}
use Rattle.sha256_block.specs.Sha256.{words}
use Rattle.sha256_block.proofs.loaded.Given as goal

abbrev pub invariant-loop-i : goal.invariant-loop-i
invariant-loop-i l = (length l.w ≡ 64) × (take l.i l.w ≡ words l.i (drop l.at l.s))
