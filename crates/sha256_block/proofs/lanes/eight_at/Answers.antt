-- Words, schedules and rounds of the eight lanes put together.
use Rattle.std.proofs.Common.{◌≤◌, length, drop, arith, length-drop}
use Rattle.sha256_block.proofs.lanes.eight_at.Goals as goal

pub returns : goal.returns
returns c =
    let m = drop c.args.at c.args.m.now in
    let h : 512 ≤ length m = simp length-drop (omega (arith, c.requires)) in
    c.compress_lanes.ensures m (c.extend.ensures m c.load.ensures) h
