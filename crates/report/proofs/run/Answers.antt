-- The rounds, and then the report of their calls.
use Rattle.report.specs.Promises.{loop_state}
use Rattle.report.specs.Rounds.{run_met}
use Rattle.report.proofs.run.Goals as goal

pub returns : goal.returns
returns c =
    let n = c.serve.new in
    run_met (loop_state n.drive n.counted) n.buffers.medium n.buffers.input n.buffers.counters n.inlog c.args.outlog.now
    c.print.new.outlog c.print.result c.serve.ensures c.print.ensures
