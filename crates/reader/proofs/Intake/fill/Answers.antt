-- Each return by what is known of the input record that is pending.
use Rattle.std.proofs.Common.{refl, Some}
use Rattle.record.specs.ArrivalLaws.{facts_of-whole, facts_of-malformed, facts_of_short}
use Rattle.reader.specs.declared.Stop.TheVariants.{Malformed, Unread}
use Rattle.reader.specs.Promises.{pending_in}
use Rattle.reader.specs.Arrivals.{fill_none, fill-whole, fill-read}
use Rattle.reader.proofs.Intake.fill.Goals as goal

pub returns-in-Whole : goal.returns-in-Whole
returns-in-Whole c =
    let a = c.args in
    let p = c.place.new.self in
    fill-whole a.most a.self.now p a.input.now a.inlog.now c.place.ensures
    (facts_of-whole a.most (pending_in a.input.now p) c.in-Whole.clock c.in-Whole.size c.in-Whole.ensures).whole

pub returns-in-Malformed : goal.returns-in-Malformed
returns-in-Malformed c =
    let a = c.args in
    let p = c.place.new.self in
    fill_none a.most a.self.now p a.input.now a.inlog.now (Some Malformed) _ c.place.ensures refl
    (refl, facts_of-malformed a.most (pending_in a.input.now p) c.in-Malformed.ensures)

pub returns-in-Short : goal.returns-in-Short
returns-in-Short c =
    let a = c.args in
    let p = c.place.new.self in
    fill_none a.most a.self.now p a.input.now a.inlog.now (Some Unread) _ c.place.ensures refl
    (refl, (facts_of_short a.most (pending_in a.input.now p) c.in-Short.ensures).0)

pub returns-in-Short-2 : goal.returns-in-Short-2
returns-in-Short-2 c =
    let a = c.args in
    let p = c.place.new.self in
    fill-read a.most a.self.now p a.input.now a.inlog.now c.read_behind.new.self c.read_behind.new.input
    c.read_behind.new.inlog c.place.ensures
    (facts_of_short a.most (pending_in a.input.now p) c.in-Short-2.ensures).0 c.if-self-ge-INPUT_LIMIT.false
    c.read_behind.ensures
