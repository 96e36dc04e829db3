-- By hex_step.
use Rattle.std.proofs.Common.{rules, ◌≡◌, refl, sym, ap, ◌∙◌, arith, length-set, take_all}
use Rattle.digest_vectors.specs.Hex.{hex}
use Rattle.digest_vectors.proofs.Text.{hex_step}
use Rattle.digest_vectors.proofs.hex_of.Goals as goal

pub loop-i-init : goal.loop-i-init
unfolding hex
loop-i-init c = (search rules, search rules, refl)

pub loop-i-preserved : goal.loop-i-preserved
loop-i-preserved c =
    let l = c.loop-i in
    let v = l.invariant in (
      v.0,
      simp length-set v.1,
      hex_step l.text c.args.d l.i c.digit.result c.digit-in-loop-i.result (omega arith) (omega arith) v.2
          c.digit.ensures c.digit-in-loop-i.ensures,
    )

pub returns : goal.returns
returns c =
    let l = c.loop-i in
    let d = c.args.d in
    let e : l.i ≡ 32 = omega arith in
    sym (take_all 64 l.text (omega arith)) ∙ (rw e at l.invariant.2) ∙ ap hex (take_all 32 d (omega arith))
