-- free: whether all places under i are clear (each_more); those from n on count as clear (each_placed).
use Rattle.std.proofs.Common.{◌≡◌, ℕ, ◌||◌, leb, get_or}
use Rattle.soundness.specs.Spans.{clear_at, each}
use Rattle.soundness.proofs.Columns.many_clear.Given as goal

abbrev pub invariant-loop-i : goal.invariant-loop-i
invariant-loop-i l = l.free ≡ each (λ (k : ℕ). leb l.first (get_or l.places k 0) || clear_at l.self.numbers.now l.self.starts.now l.self.ends.now k) l.i
