-- By lanes_grow.
use Rattle.std.proofs.Common.{arith}
use Rattle.sha256_block.proofs.Schedules.{lanes_grow}
use Rattle.sha256_block.proofs.lanes.extend.Goals as goal

pub loop-p-preserved : goal.loop-p-preserved
loop-p-preserved c =
    let l = c.loop-p in
    λ m known. let before = l.invariant m known in
    lanes_grow l.w m l.p c.next_at.result (omega arith) before (c.next_at.ensures m before)

pub returns : goal.returns
returns c = λ m known q h. c.loop-p.invariant m known q (omega arith)
