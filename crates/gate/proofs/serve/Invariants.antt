-- The loop's invariant is its progress since the format. Each round that the loop goes on after has brought a byte or a call.
use Rattle.std.proofs.Common.{◌+◌, ◌-◌, ◌*◌, Ok}
use Rattle.reader.specs.Promises.{input_limit, most_read}
use Rattle.gate.specs.Promises.{loop_state, Progress}
use Rattle.gate.proofs.serve.Given as goal

abbrev pub invariant-loop : goal.invariant-loop
invariant-loop l = Progress (loop_state l.drive l.served (Ok tt)) l.buffers.medium l.buffers.input l.inlog l.outlog

-- there are no more calls than bytes that came
abbrev pub decreases-loop : goal.decreases-loop
decreases-loop l = 2 * (input_limit + most_read) - (l.served.intake.received + l.served.calls)
