-- The loop's invariant: what is put are the first lines, and those of the other calls are to come.
use Rattle.std.proofs.Common.{◌≡◌, ◌++◌, ◌+◌, ◌*◌, ◌≤◌, map, take, drop}
use Rattle.reader.specs.Promises.{answered_length, answered_row}
use Rattle.gate.specs.Promises.{lines_of}
use Rattle.gate.proofs.put_lines.Given as goal

abbrev pub invariant-loop-i : goal.invariant-loop-i
invariant-loop-i l = (l.put ≤ l.i * 63)
    × (lines_of l.n (map answered_row l.answers) (map answered_length l.answers)
    ≡ take l.put l.out ++ lines_of (l.n + l.i) (drop l.i (map answered_row l.answers)) (drop l.i (map answered_length l.answers)))
