-- The loop's invariant: the calls so far were made, and their records were taken from the start of the input.
use Rattle.std.proofs.Common.{◌≡◌, length}
use Rattle.reader.specs.Made.{Answering}
use Rattle.reader.proofs.answers.answer.Given as goal

abbrev pub invariant-loop-answered : goal.invariant-loop-answered
invariant-loop-answered l = Answering l.initial.drive l.most (length l.initial.answers) l.initial.medium l.input l.initial.reply l.initial.answers l.drive l.medium l.reply l.answers l.taken.bytes l.taken.calls
    × (l.taken.calls ≡ l.answered-index)
