-- By blocks_then.
use Rattle.std.proofs.Common.{refl, ◌+◌, ◌*◌, take, drop, ap, ◌∙◌}
use Rattle.sha256_block.specs.Sha256.{blocks, compress}
use Rattle.sha256_block.proofs.Compression.{blocks_then}
use Rattle.sha256_block.proofs.blocks_from.Goals as goal

pub loop-i-init : goal.loop-i-init
unfolding blocks
loop-i-init c = refl

pub loop-i-preserved : goal.loop-i-preserved
unfolding blocks
loop-i-preserved c =
    let a = c.args in
    let m = a.m.now in
    let i = c.loop-i.i in
    let at = a.from + 64 * i in
    c.compress_at-v.ensures
    ∙ ap (λ v. compress v (take 64 (drop at m))) c.loop-i.invariant
    ∙ blocks_then 1 i (i + 1) a.from at a.s m refl refl
