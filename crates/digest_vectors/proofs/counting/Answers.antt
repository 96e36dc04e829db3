-- By count_step.
use Rattle.std.proofs.Common.{rules, ◌≡◌, refl, sym, ◌∙◌, arith, length-set, take_all}
use Rattle.digest_vectors.specs.Hex.{count}
use Rattle.digest_vectors.proofs.Text.{count_step}
use Rattle.digest_vectors.proofs.counting.Goals as goal

pub loop-i-init : goal.loop-i-init
unfolding count
loop-i-init c = (search rules, refl)

pub loop-i-preserved : goal.loop-i-preserved
loop-i-preserved c =
    let l = c.loop-i in
    (rw length-set l.invariant.0, count_step l.b l.i (omega (arith, l.invariant.0)) l.invariant.1)

pub returns : goal.returns
returns c =
    let l = c.loop-i in
    let e : l.i ≡ 129 = omega arith in
    sym (take_all 129 l.b (omega arith)) ∙ (rw e at l.invariant.1)
