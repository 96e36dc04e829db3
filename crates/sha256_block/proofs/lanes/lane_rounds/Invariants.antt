-- Each step of the inner loop takes one round off the front of what is left.
use Rattle.std.proofs.Common.{◌≡◌, ℕ, ◌+◌, ◌*◌, List}
use Rattle.sha256_block.specs.Lanes.{Lanes}
use Rattle.sha256_block.proofs.Schedules.{left_of}
use Rattle.sha256_block.proofs.lanes.lane_rounds.Given as goal

abbrev pub invariant-loop-i : goal.invariant-loop-i
invariant-loop-i l =
    (m : List ℕ) → Lanes 512 l.w m → left_of l.k l.l m (8 * l.turn + l.i) l.v ≡ left_of l.k l.l m (8 * l.turn) l.initial.v

abbrev pub invariant-loop-turn : goal.invariant-loop-turn
invariant-loop-turn l = (m : List ℕ) → Lanes 512 l.w m → left_of l.k l.l m (8 * l.turn) l.v ≡ left_of l.k l.l m 0 l.initial.v
