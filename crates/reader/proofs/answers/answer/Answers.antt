-- The loop's invariant: the calls so far were made, and their records were taken from the start of the input.
use Rattle.std.proofs.Common.{◌≡◌, refl, sym, subst, ap, true, List, ℕ, ◌+◌, ◌-◌, length, take, drop, arith}
use Rattle.std.proofs.lemmas.List.{set-get_or}
use Rattle.rules.specs.Program.{broken}
use Rattle.reader.specs.declared.Answered.{Answered}
use Rattle.reader.specs.Promises.{WholeMet, WholeRecordMet}
use Rattle.reader.specs.WholeRecord.{rest_all}
use Rattle.reader.specs.Made.{answering_all, answering_more, answering_none, taken_full, taken_stuck}
use Rattle.reader.proofs.answers.answer.Goals as goal

pub loop-answered-init : goal.loop-answered-init
loop-answered-init c = (answering_none _ _ _ _ _ _ _, refl)

pub loop-answered-preserved : goal.loop-answered-preserved
loop-answered-preserved c =
    let l = c.loop-answered in
    let a = c.args in
    let r = c.in-Some.record in
    let now : Answered = record { answer = c.gate.result; partition = c.partition_of.result } in
    let whole : WholeMet a.most (drop l.taken.bytes a.input.now) r.clock r.frame.now =
    subst (λ (s : List ℕ). WholeMet a.most s r.clock r.frame.now) (rest_all a.input.now l.taken.bytes) c.in-Some.ensures in
    let more = answering_more a.drive.now a.most (length a.answers.now) a.medium.now a.input.now a.reply.now a.answers.now
    l.drive l.medium l.reply l.answers l.taken.bytes l.taken.calls r.clock r.frame.now now c.gate.new.drive
    c.gate.new.medium c.gate.new.reply l.invariant.0
    (omega (arith, l.invariant.1, c.loop-answered-test.true, l.auto.answers)) refl l.auto.reply whole c.gate.ensures
    c.partition_of.ensures in
    (rw (sym l.invariant.1) more, ap (λ (n : ℕ). n + 1) l.invariant.1)

-- the loop was left for want of room, or of a whole record
pub returns-after-loop-answered : goal.returns-after-loop-answered
returns-after-loop-answered c =
    let l = c.loop-answered in
    let a = c.args in
    answering_all a.drive.now a.most a.medium.now a.input.now a.reply.now a.answers.now
    (record { drive = l.drive; taken = l.taken.bytes; count = l.taken.calls }) l.medium l.reply l.answers l.invariant.0
    (taken_full a.most (length a.reply.now) (length a.answers.now) a.input.now l.invariant.0.calls l.taken.bytes
    l.invariant.0.records
    (omega (arith, c.loop-answered-test.false, l.invariant.1, l.invariant.0.number, l.auto.answers)))

pub returns-in_default : goal.returns-in_default
returns-in_default c =
    let l = c.loop-answered in
    let a = c.args in
    let none : broken a.most (drop l.taken.bytes a.input.now) ≡ true =
    subst (λ (s : List ℕ). broken a.most s ≡ true) (rest_all a.input.now l.taken.bytes)
    (subst (WholeRecordMet a.most (take (length a.input.now - l.taken.bytes) (drop l.taken.bytes a.input.now))) c.in_default.is
    c.whole_record.ensures) in
    rw set-get_or
    (answering_all a.drive.now a.most a.medium.now a.input.now a.reply.now a.answers.now
    (record { drive = l.drive; taken = l.taken.bytes; count = l.taken.calls }) l.medium l.reply l.answers l.invariant.0
    (taken_stuck a.most (length a.reply.now) (length a.answers.now) a.input.now l.invariant.0.calls l.taken.bytes
    l.invariant.0.records none))
