-- Each byte of the block is XORed.
use Rattle.std.proofs.Common.{rules, refl, ◌∙◌, arith, take_all}
use Rattle.std.proofs.lemmas.List.{length-map}
use Rattle.std.specs.Int.Bits.{bit_xor}
use Rattle.lemmas.specs.Fronts.{front-map, front_all}
use Rattle.digest.specs.Hmac.{xored}
use Rattle.digest.proofs.mac.xored.Goals as goal

pub loop-b-init : goal.loop-b-init
unfolding xored
loop-b-init c = (search rules, refl)

pub loop-b-preserved : goal.loop-b-preserved
unfolding xored
loop-b-preserved c =
    let l = c.loop-b in (
      l.invariant.0,
      front-map (λ b. bit_xor b c.args.c) c.args.k l.b-items l.b-index 0 (omega (arith, l.invariant.0)) l.invariant.1,
    )

pub returns : goal.returns
unfolding xored
returns c =
    let l = c.loop-b in
    let k = c.args.k in
    rw (take_all l.b-index k (omega (arith, l.invariant.0))) at l.invariant.1
    ∙ front_all (xored c.args.c k) k (omega (arith, length-map k (λ b. bit_xor b c.args.c)))
