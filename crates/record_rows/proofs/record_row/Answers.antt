-- `record_rows::record_row` meets its contract: each row that did not refuse is passed over, and one that refuses is the table's
-- first.
use Rattle.std.proofs.Common.{◌∙◌, sym}
use Rattle.rules.proofs.Refused.{row_handed_on, row_last, row_passed, row_refused}
use Rattle.record_rows.specs.Refusals.{record_row}
use Rattle.record_rows.proofs.record_row.Goals as goal

pub returns-in_err-refuse : goal.returns-in_err-refuse
unfolding record_row
returns-in_err-refuse c =
    row_handed_on _ _ c.from_residual.ensures.1
    ∙ rw (← c.bad_magic.ensures) (row_refused _ _ _ _ c.in_err-refuse.ensures)

pub returns-in_err-refuse-2 : goal.returns-in_err-refuse-2
unfolding record_row
returns-in_err-refuse-2 c =
    row_handed_on _ _ c.from_residual-in_err-refuse-2.ensures.1
    ∙ rw (← c.bad_magic.ensures, ← c.outside.ensures)
    (row_refused _ _ _ _ c.in_err-refuse-2.ensures ∙ sym (row_passed _ _ _ _ c.in_ok-refuse.ensures))

pub returns-in_err-refuse-3 : goal.returns-in_err-refuse-3
unfolding record_row
returns-in_err-refuse-3 c =
    row_handed_on _ _ c.from_residual-in_err-refuse-3.ensures.1
    ∙ rw (← c.bad_magic.ensures, ← c.outside.ensures, ← c.wrong_length.ensures)
    (row_refused _ _ _ _ c.in_err-refuse-3.ensures
    ∙ sym (row_passed _ _ _ _ c.in_ok-refuse.ensures ∙ row_passed _ _ _ _ c.in_ok-refuse-2.ensures))

pub returns : goal.returns
unfolding record_row
returns c =
    rw (c.refuse-4.ensures, ← c.bad_magic.ensures, ← c.outside.ensures, ← c.wrong_length.ensures, ← c.misfit.ensures)
    (row_last _ _
    ∙ sym (row_passed _ _ _ _ c.in_ok-refuse.ensures ∙ row_passed _ _ _ _ c.in_ok-refuse-2.ensures
    ∙ row_passed _ _ _ _ c.in_ok-refuse-3.ensures))
