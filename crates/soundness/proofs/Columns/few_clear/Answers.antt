-- free: whether all places under i are clear (each_more).
use Rattle.std.proofs.Common.{◌≡◌, refl, arith}
use Rattle.soundness.specs.Spans.{clear_at, each, each_more}
use Rattle.soundness.proofs.Columns.few_clear.Goals as goal

pub loop-i-init : goal.loop-i-init
unfolding each
loop-i-init c = refl

pub loop-i-preserved : goal.loop-i-preserved
loop-i-preserved c =
    let l = c.loop-i in
    let a = c.args in
    rw (each_more (clear_at a.self.numbers.now a.self.starts.now a.self.ends.now) l.i, l.invariant, c.is_clear-free.ensures)

pub returns : goal.returns
returns c =
    let l = c.loop-i in
    let e : l.i ≡ c.args.self.count = omega arith in
    rw e at l.invariant
