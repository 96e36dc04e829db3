-- Each step of the inner loop makes one word and takes one round off the front of what is left.
use Rattle.std.proofs.Common.{◌≡◌, ◌+◌, ◌*◌}
use Rattle.sha256_block.proofs.Compression.{left}
use Rattle.sha256_block.proofs.later_rounds.Given as goal

abbrev pub invariant-loop-i : goal.invariant-loop-i
invariant-loop-i l = left l.k (4 * l.turn + l.i) l.w l.v ≡ left l.k (4 * l.turn) l.initial.w l.initial.v

abbrev pub invariant-loop-turn : goal.invariant-loop-turn
invariant-loop-turn l = left l.k (4 * l.turn) l.w l.v ≡ left l.k 16 l.initial.w l.initial.v
