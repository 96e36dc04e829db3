-- Words, schedule, rounds and sums put together: compress_is.
use Rattle.std.proofs.Common.{◌≤◌, length, drop, ap, ◌∙◌, arith, length-drop}
use Rattle.sha256_block.proofs.Compression.{compress_is}
use Rattle.sha256_block.specs.Sha256.{schedule, extend, rounds, added, K}
use Rattle.sha256_block.proofs.compress_at.Goals as goal

pub returns : goal.returns
unfolding schedule
returns c =
    let a = c.args in
    let m = drop a.at a.m.now in
    let h : 64 ≤ length m = simp length-drop (omega (arith, c.requires)) in
    c.added.ensures
    ∙ ap (added a.s) c.all_rounds.ensures
    ∙ ap (λ w. added a.s (rounds K (extend 48 w) a.s)) c.loaded.ensures
    ∙ compress_is a.s m h
