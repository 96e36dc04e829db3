-- Each row that did not refuse is passed over, and one that refuses is the table's first; records that are not all there are refused
-- whichever way they are read (`either_row`).
use Rattle.std.proofs.Common.{◌≡◌, ◌∙◌, sym, false}
use Rattle.lemmas.specs.RowTable.{row_next}
use Rattle.rules.proofs.Refused.{passed_tells, row_handed_on, row_last, row_passed, row_refused}
use Rattle.rules.specs.Client.{check_rows}
use Rattle.fields.specs.Records.{request_in}
use Rattle.reply_check.specs.CheckLaws.{either_row, row28, row30_as_read}
use Rattle.reply_check.proofs.check_row.Goals as goal

pub returns-in_err-refuse : goal.returns-in_err-refuse
unfolding check_rows
returns-in_err-refuse c = row_handed_on _ _ c.from_residual.ensures.1 ∙ row_refused _ _ _ _ c.in_err-refuse.ensures

pub returns-in_err-refuse-2 : goal.returns-in_err-refuse-2
unfolding check_rows
returns-in_err-refuse-2 c =
    let a = c.args in
    row_handed_on _ _ c.from_residual-in_err-refuse-2.ensures.1
    ∙ rw (← either_row a.credential.now a.request.now a.key.now a.reply.now, ← c.request_in-r.ensures, ← c.bad_records.ensures, ← c.result_length.ensures)
    (row_refused _ _ _ _ c.in_err-refuse-2.ensures ∙ sym (row_passed _ _ _ _ c.in_ok-refuse.ensures))

pub returns : goal.returns
unfolding check_rows
returns c =
    let a = c.args in
    let none : row28 a.credential.now a.request.now (request_in a.request.now 0) ≡ false =
    rw (← c.request_in-r.ensures, ← c.bad_records.ensures, ← c.result_length.ensures)
    (passed_tells _ _ _ c.in_ok-refuse-2.ensures) in
    rw (c.refuse-3.ensures, c.wrong_reply.ensures, c.request_in-r.ensures, row30_as_read a.credential.now a.request.now a.key.now a.reply.now none)
    (row_last _ _
    ∙ sym (row_passed _ _ _ _ c.in_ok-refuse.ensures ∙ row_next _ _ (sym (either_row a.credential.now a.request.now a.key.now a.reply.now) ∙ none)))
