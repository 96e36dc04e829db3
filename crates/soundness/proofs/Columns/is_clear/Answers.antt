-- hit: whether a place under i clashes (each_more); those from n on pass (each_first).
use Rattle.std.proofs.Common.{ℕ, not, ◌&&◌, ◌||◌, leb, refl, ◌∙◌, arith}
use Rattle.lemmas.specs.Tests.{◌under◌}
use Rattle.soundness.specs.Spans.{each, each_more, clash_at}
use Rattle.soundness.proofs.Clear.{not_or, not_and, not_under}
use Rattle.soundness.proofs.Places.{each_first}
use Rattle.soundness.proofs.Columns.is_clear.Goals as goal

pub loop-i-init : goal.loop-i-init
unfolding each
loop-i-init c = refl

pub loop-i-preserved : goal.loop-i-preserved
loop-i-preserved c =
    let l = c.loop-i in
    let a = c.args in
    let clashes = clash_at a.self.numbers.now a.self.starts.now a.self.ends.now a.n in
    not_or l.hit (l.i under a.n && clashes l.i)
    ∙ rw (each_more (λ (k : ℕ). leb a.n k || not (clashes k)) l.i, l.invariant, not_and (l.i under a.n) (clashes l.i), not_under l.i a.n) refl

pub returns : goal.returns
returns c =
    let l = c.loop-i in
    let a = c.args in
    l.invariant ∙ each_first (λ (k : ℕ). not (clash_at a.self.numbers.now a.self.starts.now a.self.ends.now a.n k)) a.n l.i (omega arith)
