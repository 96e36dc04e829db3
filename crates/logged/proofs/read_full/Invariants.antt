-- The bytes that have come lie within the space, and each turn brings some.
use Rattle.std.proofs.Common.{length, ◌-◌, ◌≤◌}
use Rattle.logged.proofs.read_full.Given as goal

abbrev pub invariant-loop-done : goal.invariant-loop-done
invariant-loop-done l = l.done ≤ length l.space

abbrev pub decreases-loop-done : goal.decreases-loop-done
decreases-loop-done l = length l.initial.space - l.done
