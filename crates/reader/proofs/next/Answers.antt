-- The buffer is filled, and the whole records in it are answered.
use Rattle.std.proofs.Common.{◌≡◌, refl, sym, subst, true, false, Option, None, Some, ◌+◌, arith, rules}
use Rattle.std.specs.Option.{is_some}
use Rattle.reader.specs.declared.Stop.{Stop}
use Rattle.reader.specs.Promises.{goes_on, NextMet}
use Rattle.drive.specs.Chain.{state_of}
use Rattle.reader.specs.Round.{next_answered, next_stopped}
use Rattle.reader.specs.Session.{next_fits}
use Rattle.reader.proofs.next.Goals as goal

stops : (o : Option Stop) → is_some o ≡ true → goes_on o ≡ false
stops None e = sym e
stops (Some stop) e = refl

runs : (o : Option Stop) → is_some o ≡ false → o ≡ None
runs None e = refl
runs (Some stop) e = cc

pub returns-then-is_some-clause-met : goal.returns-then-is_some-clause-met
returns-then-is_some-clause-met c =
    let a = c.args in
    let f = c.fill.new.self in
    let e : is_some f.stopped ≡ true = search rules in
    next_stopped a.drive.now a.intake.now a.most a.medium.now a.input.now a.reply.now a.answers.now a.inlog.now f
    c.fill.new.input c.fill.new.inlog c.fill.ensures (stops f.stopped e)

met : goal.returns-clause-met
met c =
    let a = c.args in
    let f = c.fill.new.self in
    let t = c.answer-taken in
    let e : is_some f.stopped ≡ false = search rules in
    subst
    (λ (o : Option Stop). NextMet a.drive.now a.intake.now a.most a.medium.now a.input.now a.reply.now a.answers.now a.inlog.now
    (record {
      drive = t.new.drive;
      intake = record { from = f.from + t.result.bytes; to = f.to; received = f.received; logged = f.logged; stopped = o };
      count = t.result.calls;
    })
    t.new.medium c.fill.new.input t.new.reply t.new.answers c.fill.new.inlog)
    (sym (runs f.stopped e))
    (next_answered a.drive.now a.intake.now a.most a.medium.now a.input.now a.reply.now a.answers.now a.inlog.now f
    c.fill.new.input c.fill.new.inlog
    (record { drive = t.new.drive; taken = t.result.bytes; count = t.result.calls }) t.new.medium t.new.reply t.new.answers
    c.fill.ensures (runs f.stopped e) t.ensures)

pub returns-clause-met : goal.returns-clause-met
returns-clause-met c = met c

-- there are no more calls than there is room for
pub returns-clause-room : goal.returns-clause-room
returns-clause-room c =
    let a = c.args in
    let f = c.fill.new.self in
    let t = c.answer-taken in
    omega (
      arith,
      t.auto.answers,
      next_fits a.most (state_of a.drive.now a.medium.now) a.drive.now a.intake.now a.medium.now a.input.now a.reply.now
          a.answers.now a.inlog.now
          (record {
            drive = t.new.drive;
            intake = record { from = f.from + t.result.bytes; to = f.to; received = f.received; logged = f.logged; stopped = f.stopped };
            count = t.result.calls;
          })
          _ _ _ _ _ (met c),
    )
