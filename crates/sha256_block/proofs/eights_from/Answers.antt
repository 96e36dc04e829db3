-- By blocks_then.
use Rattle.std.proofs.Common.{◌≡◌, refl, ℕ, ◌+◌, ◌-◌, ◌*◌, ◌/◌, length, drop, ap, ◌∙◌, arith}
use Rattle.sha256_block.specs.Sha256.{blocks}
use Rattle.sha256_block.proofs.Compression.{blocks_then}
use Rattle.sha256_block.proofs.eights_from.Goals as goal

pub loop-i-init : goal.loop-i-init
unfolding blocks
loop-i-init c = refl

pub loop-i-preserved : goal.loop-i-preserved
loop-i-preserved c =
    let a = c.args in
    let m = a.m.now in
    let i = c.loop-i.i in
    let at = a.from + 512 * i in
    c.eight_at-v.ensures
    ∙ ap (λ v. blocks 8 v (drop at m)) c.loop-i.invariant
    ∙ blocks_then 8 (8 * i) (8 * (i + 1)) a.from at a.s m (omega arith) (omega arith)

pub returns : goal.returns
returns c =
    let a = c.args in
    let e : 8 * c.loop-i.i ≡ (length a.m.now - a.from) / 512 * 8 = omega arith in
    c.loop-i.invariant ∙ ap (λ (n : ℕ). blocks n a.s (drop a.from a.m.now)) e
