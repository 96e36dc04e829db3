-- Each step of the inner loop takes one of the first sixteen rounds off the front of what is left.
use Rattle.std.proofs.Common.{◌≡◌, ◌+◌, ◌*◌}
use Rattle.sha256_block.proofs.Compression.{left_of16}
use Rattle.sha256_block.proofs.first_rounds.Given as goal

abbrev pub invariant-loop-i : goal.invariant-loop-i
invariant-loop-i l = left_of16 l.k (4 * l.turn + l.i) l.w l.v ≡ left_of16 l.k (4 * l.turn) l.w l.initial.v

abbrev pub invariant-loop-turn : goal.invariant-loop-turn
invariant-loop-turn l = left_of16 l.k (4 * l.turn) l.w l.v ≡ left_of16 l.k 0 l.w l.initial.v
