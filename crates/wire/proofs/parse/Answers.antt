-- `wire::parse` meets its contract, by the frame's length.
use Rattle.std.proofs.Common.{sym, ◌∙◌, ltb-true, ltb-false}
use Rattle.rules.proofs.Refused.{passed_tells, refused_tells}
use Rattle.wire.specs.ParseLaws.{answered_by, answered_short, answered_long}
use Rattle.wire.proofs.parse.Goals as goal

pub returns-in_err-refuse : goal.returns-in_err-refuse
returns-in_err-refuse c =
    let h = refused_tells _ _ _ c.in_err-refuse.ensures in
    answered_by _ _ c.from_residual.ensures.1 ∙ rw h.1 (sym (answered_short _ (ltb-true _ _ h.0)))

pub returns : goal.returns
returns c = rw c.new.ensures.0 at c.walk.ensures ∙ sym (answered_long _ (ltb-false _ _ (passed_tells _ _ _ c.in_ok-refuse.ensures)))
