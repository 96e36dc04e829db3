-- free: whether all places under i are clear (each_more); those from n on count as clear (each_placed).
use Rattle.std.proofs.Common.{ℕ, ◌||◌, leb, get_or, refl, ◌∙◌, arith}
use Rattle.rules.specs.Drive.{most_objects}
use Rattle.state.specs.Table.{range}
use Rattle.soundness.specs.Spans.{clear_at, each, each_more}
use Rattle.soundness.proofs.Places.{each_placed}
use Rattle.soundness.proofs.Columns.many_clear.Goals as goal

pub loop-i-init : goal.loop-i-init
unfolding each
loop-i-init c = refl

pub loop-i-preserved : goal.loop-i-preserved
loop-i-preserved c =
    let l = c.loop-i in
    let a = c.args in
    let t = clear_at a.self.numbers.now a.self.starts.now a.self.ends.now in
    rw (each_more (λ (k : ℕ). leb a.self.count (get_or (range 0 most_objects) k 0) || t k) l.i, l.invariant, c.is_clear.ensures)

pub returns : goal.returns
returns c =
    let l = c.loop-i in
    let a = c.args in
    l.invariant ∙ each_placed (clear_at a.self.numbers.now a.self.starts.now a.self.ends.now) a.self.count l.i (omega arith) (omega arith)
