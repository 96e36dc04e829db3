-- Each row that did not refuse is passed over, and one that refuses is the table's first.
use Rattle.std.proofs.Common.{◌∙◌, sym}
use Rattle.rules.proofs.Refused.{row_handed_on, row_last, row_passed, row_refused}
use Rattle.drive.proofs.formatting.format_answer.Goals as goal

pub returns-in_err-refuse : goal.returns-in_err-refuse
returns-in_err-refuse c =
    row_handed_on _ _ c.from_residual.ensures.1 ∙ row_refused _ _ _ _ c.in_err-refuse.ensures

pub returns-in_err-refuse-2 : goal.returns-in_err-refuse-2
returns-in_err-refuse-2 c =
    row_handed_on _ _ c.from_residual-in_err-refuse-2.ensures.1
    ∙ row_refused _ _ _ _ c.in_err-refuse-2.ensures ∙ sym (row_passed _ _ _ _ c.in_ok-refuse.ensures)

pub returns : goal.returns
returns c =
    rw c.refuse-3.ensures
    (row_last _ _ ∙ sym (row_passed _ _ _ _ c.in_ok-refuse.ensures ∙ row_passed _ _ _ _ c.in_ok-refuse-2.ensures))
