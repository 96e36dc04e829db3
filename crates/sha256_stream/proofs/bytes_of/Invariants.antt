-- The bytes of the words written so far stand at the start of the array.
use Rattle.std.proofs.Common.{◌≡◌, ◌*◌, length, take}
use Rattle.sha256_stream.proofs.Padding.{joined}
use Rattle.sha256_stream.proofs.bytes_of.Given as goal

abbrev pub invariant-loop-i : goal.invariant-loop-i
invariant-loop-i l = (length l.out ≡ 32) × (take (4 * l.i) l.out ≡ joined (take l.i l.x-items))
