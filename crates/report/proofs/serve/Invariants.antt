-- The loop's invariant is its progress since the format. Each round that the loop goes on after has brought a byte or a call.
use Rattle.std.proofs.Common.{◌+◌, ◌-◌, ◌*◌}
use Rattle.reader.specs.Promises.{input_limit, most_read}
use Rattle.report.specs.Promises.{loop_state, Progress}
use Rattle.report.proofs.serve.Given as goal

abbrev pub invariant-loop-stdin : goal.invariant-loop-stdin
invariant-loop-stdin l = Progress (loop_state l.drive l.counted) l.buffers.medium l.buffers.input l.buffers.counters l.inlog

-- there are no more calls than bytes that came
abbrev pub decreases-loop-stdin : goal.decreases-loop-stdin
decreases-loop-stdin l = 2 * (input_limit + most_read) - (l.counted.intake.received + l.counted.calls)
