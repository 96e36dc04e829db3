-- The first i tables are of partitions that have nothing (emptied_next).
use Rattle.drive.proofs.Tables.{Emptied}
use Rattle.drive.proofs.formatting.empty_each.Given as goal

abbrev pub invariant-loop-i : goal.invariant-loop-i
invariant-loop-i l = Emptied l.first l.tables l.i
