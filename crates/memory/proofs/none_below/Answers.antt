-- While seen is under 2^63 none of the times so far is below the floor (quick_more).
use Rattle.std.proofs.Common.{◌^◌, refl, arith, ltb-true, take_all}
use Rattle.lemmas.specs.Lists.{some?}
use Rattle.memory.proofs.Quick.{quick_high, quick_more}
use Rattle.memory.proofs.none_below.Goals as goal

pub loop-time-init : goal.loop-time-init
unfolding some?
loop-time-init c = (omega arith, λ q. refl)

pub loop-time-preserved : goal.loop-time-preserved
loop-time-preserved c =
    let l = c.loop-time in
    let a = c.args in (
      quick_high a.floor l.seen _ l.invariant.0,
      quick_more a.times.now l.time-index a.floor l.seen (omega arith) (omega (arith, c.type_inv.times l.time-index)) (omega arith) l.invariant.0 l.invariant.1,
    )

pub returns : goal.returns
returns c =
    let l = c.loop-time in
    let a = c.args in
    λ q. rw (take_all l.time-index a.times.now (omega arith)) at (l.invariant.1 (ltb-true l.seen (2 ^ 63) q))
