-- A round of the reader, and its lines behind those before.
use Rattle.std.proofs.Common.{Ok, take, arith, rules}
use Rattle.std.specs.Result.{is_ok}
use Rattle.gate.specs.Promises.{loop_state}
use Rattle.gate.specs.Rounds.{round_met}
use Rattle.gate.proofs.round.Goals as goal

pub returns : goal.returns
returns c =
    let a = c.args in
    let b = a.buffers.now in
    let n = c.next-count in
    round_met (loop_state a.drive.now a.served.now (Ok tt)) b.medium b.input b.reply b.answers a.inlog.now a.outlog.now
    (record { drive = n.new.drive; intake = n.new.intake; count = n.result }) _ _ _ n.new.answers n.new.inlog
    c.write.new.log (take c.put_lines-put.result c.put_lines-put.new.out) c.write.new.at (is_ok c.write.result) c.requires n.ensures.met
    (search rules) n.auto.inlog (omega arith) c.put_lines-put.ensures.1 c.write.ensures c.write.auto.log
