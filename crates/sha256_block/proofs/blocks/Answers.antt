-- From past the end on there is no block; else what is left after the eights is worked in block by block.
use Rattle.std.proofs.Common.{◌≡◌, ◌-◌, ◌/◌, length, arith}
use Rattle.sha256_block.specs.Sha256.{blocks}
use Rattle.sha256_block.proofs.Compression.{blocks_after_eights}
use Rattle.sha256_block.proofs.blocks.Goals as goal

pub returns-then-m-from : goal.returns-then-m-from
unfolding blocks
returns-then-m-from c =
    let a = c.args in
    let e : (length a.m.now - a.from) / 64 ≡ 0 = omega arith in
    rw e

pub returns : goal.returns
returns c =
    let a = c.args in
    rw (c.blocks_from.ensures, c.eights_from-v.ensures)
    (blocks_after_eights a.from a.s a.m.now (omega arith))
