-- By lanes_load and lanes_grow.
use Rattle.std.proofs.Common.{◌+◌, ◌*◌, drop, ◌∙◌, arith}
use Rattle.sha256_block.proofs.Schedules.{lanes_none, lanes_grow, lanes_load}
use Rattle.sha256_block.proofs.lanes.load.Goals as goal

pub loop-t-init : goal.loop-t-init
loop-t-init c = lanes_none c.args.w.now (drop c.args.at c.args.m.now)

pub loop-l-init : goal.loop-l-init
loop-l-init c = λ q h. c.loop-t.invariant q (omega arith)

pub loop-l-preserved : goal.loop-l-preserved
loop-l-preserved c =
    let a = c.args in
    let l = c.loop-l in
    let t = c.loop-t.t in
    λ q h. lanes_grow l.w (drop a.at a.m.now) (8 * t + l.l) c.word_at.result (omega arith) l.invariant
    (c.word_at.ensures ∙ lanes_load a.m.now a.at t l.l (omega arith) (omega arith)) q (omega arith)

pub loop-t-preserved : goal.loop-t-preserved
loop-t-preserved c = λ q h. c.loop-l.invariant q (omega arith)

pub returns : goal.returns
returns c = λ q h. c.loop-t.invariant q (omega arith)
