-- The loop's invariant: the array starts with the bytes counted so far.
use Rattle.std.proofs.Common.{◌≡◌, length, take}
use Rattle.digest_vectors.specs.Hex.{count}
use Rattle.digest_vectors.proofs.counting.Given as goal

abbrev pub invariant-loop-i : goal.invariant-loop-i
invariant-loop-i l = (length l.b ≡ 129) × (take l.i l.b ≡ count l.i)
