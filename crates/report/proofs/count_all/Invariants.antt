-- The loop's invariant: what is still to be counted makes of the counters what all of it makes of those at the start.
use Rattle.std.proofs.Common.{◌≡◌, map, drop}
use Rattle.reader.specs.Promises.{answered_partition, answered_row}
use Rattle.report.specs.Promises.{counted_all}
use Rattle.report.proofs.count_all.Given as goal

abbrev pub invariant-loop-answered : goal.invariant-loop-answered
invariant-loop-answered l =
    counted_all l.initial.counters (map answered_row l.answers) (map answered_partition l.answers)
    ≡ counted_all l.counters (drop l.answered-index (map answered_row l.answers)) (drop l.answered-index (map answered_partition l.answers))
