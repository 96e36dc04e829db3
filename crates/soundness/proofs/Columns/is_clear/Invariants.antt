-- hit: whether a place under i clashes (each_more); those from n on pass (each_first).
use Rattle.std.proofs.Common.{◌≡◌, ℕ, not, ◌||◌, leb}
use Rattle.soundness.specs.Spans.{each, clash_at}
use Rattle.soundness.proofs.Columns.is_clear.Given as goal

abbrev pub invariant-loop-i : goal.invariant-loop-i
invariant-loop-i l =
    not l.hit ≡ each (λ (k : ℕ). leb l.n k || not (clash_at l.self.numbers.now l.self.starts.now l.self.ends.now l.n k)) l.i
