-- By block_next. K is the table of the code.
use Rattle.std.proofs.Common.{◌≡◌, refl, ap, ◌∙◌, arith}
use Rattle.sha256_block.specs.Sha256.{blocks, added, K}
use Rattle.sha256_block.proofs.Compression.{block_next}
use Rattle.sha256_block.proofs.lanes.compress_lanes.Goals as goal

pub loop-l-init : goal.loop-l-init
unfolding blocks
loop-l-init c = λ m known h. refl

pub loop-l-preserved : goal.loop-l-preserved
unfolding K
loop-l-preserved c =
    let l = c.loop-l in
    let s = c.args.s in
    λ m known h. c.added-v.ensures ∙ ap (added l.v) (c.lane_rounds.ensures m known)
    ∙ block_next l.l s l.v m (omega arith) (l.invariant m known h)

pub returns : goal.returns
returns c =
    let e : c.loop-l.l ≡ 8 = omega arith in
    λ m known h. rw e at (c.loop-l.invariant m known h)
