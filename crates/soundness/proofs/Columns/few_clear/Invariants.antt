-- free: whether all places under i are clear (each_more).
use Rattle.std.proofs.Common.{◌≡◌}
use Rattle.soundness.specs.Spans.{clear_at, each}
use Rattle.soundness.proofs.Columns.few_clear.Given as goal

abbrev pub invariant-loop-i : goal.invariant-loop-i
invariant-loop-i l = l.free ≡ each (clear_at l.self.numbers.now l.self.starts.now l.self.ends.now) l.i
