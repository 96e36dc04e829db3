-- The first i of the array are the first i ends (map_took), and each size so far is narrow (each_more).
use Rattle.std.proofs.Common.{◌≡◌, ◌^◌, ◌<◌, get_or, sym, refl, ap, ◌∙◌, arith, take_all, rules, lt-ltb}
use Rattle.lemmas.specs.Tests.{both}
use Rattle.lemmas.specs.Loops.{map_took}
use Rattle.state.specs.Table.{range}
use Rattle.soundness.specs.Spans.{end_at, ends_of, narrow_at, each, each_more}
use Rattle.soundness.proofs.Places.{place_is}
use Rattle.rules.specs.Drive.{most_objects}
use Rattle.soundness.proofs.ends_of.Goals as goal

pub loop-i-init : goal.loop-i-init
unfolding each
loop-i-init c = (search rules, refl, refl)

pub loop-i-preserved : goal.loop-i-preserved
loop-i-preserved c =
    let l = c.loop-i in
    let a = c.args in
    let starts = a.starts.now in
    let sizes = a.sizes.now in
    let e = c.end_of.ensures in
    let h : l.i < most_objects = omega arith in (
      search rules,
      map_took (end_at starts sizes) (range 0 most_objects) l.ends l.i 0 c.end_of.result h (omega arith) l.invariant.1 (e.0 ∙ ap (end_at starts sizes) (sym (place_is l.i h))),
      each_more (narrow_at sizes) l.i ∙ both l.invariant.2 (lt-ltb (get_or sizes l.i 0) (2 ^ 32) e.1),
    )

pub returns : goal.returns
unfolding ends_of
returns c =
    let l = c.loop-i in
    let e : l.i ≡ most_objects = omega arith in
    (sym (take_all most_objects l.ends (omega arith)) ∙ rw e at l.invariant.1, rw e at l.invariant.2)
