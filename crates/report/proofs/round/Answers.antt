-- A round of the reader, and its calls counted.
use Rattle.std.proofs.Common.{arith, rules}
use Rattle.report.specs.Promises.{loop_state}
use Rattle.report.specs.Rounds.{round_met}
use Rattle.report.proofs.round.Goals as goal

pub returns : goal.returns
returns c =
    let a = c.args in
    let b = a.buffers.now in
    let n = c.next-count in
    round_met (loop_state a.drive.now a.counted.now) b.medium b.input b.reply b.answers b.counters a.inlog.now
    (record { drive = n.new.drive; intake = n.new.intake; count = n.result }) _ _ _ n.new.answers
    c.count_all.new.counters n.new.inlog c.requires n.ensures.met (search rules) n.auto.inlog (omega arith) c.count_all.ensures
