-- Each row that did not refuse is passed over, and one that refuses is the table's first; credential and request that are not all
-- there are refused whichever way they are read (`rows_are_read`).
use Rattle.std.proofs.Common.{◌∙◌, sym}
use Rattle.rules.specs.Client.{build_rows}
use Rattle.rules.proofs.Refused.{row_handed_on, row_last, row_passed, row_refused}
use Rattle.client.proofs.ClientLaws.{rows_are_read}
use Rattle.client.proofs.rows.build_row.Goals as goal

pub returns-in_err-refuse : goal.returns-in_err-refuse
unfolding build_rows
returns-in_err-refuse c = row_handed_on _ _ c.from_residual.ensures.1 ∙ row_refused _ _ _ _ c.in_err-refuse.ensures

pub returns-in_err-refuse-2 : goal.returns-in_err-refuse-2
returns-in_err-refuse-2 c =
    let a = c.args in
    row_handed_on _ _ c.from_residual-in_err-refuse-2.ensures.1
    ∙ rw (← rows_are_read a.credential.now a.request.now a.bytes.now a.key.now a.space.now, ← c.request_in-r.ensures, ← c.bad_records.ensures)
    (row_refused _ _ _ _ c.in_err-refuse-2.ensures ∙ sym (row_passed _ _ _ _ c.in_ok-refuse.ensures))

pub returns : goal.returns
returns c =
    let a = c.args in
    rw (
      ← rows_are_read a.credential.now a.request.now a.bytes.now a.key.now a.space.now,
      c.refuse-3.ensures,
      c.fits.ensures,
      c.credential_length-start.ensures,
      c.rest_length-rest.ensures,
      ← c.credential_in-c.ensures,
      ← c.request_in-r.ensures,
      ← c.bad_records.ensures,
    )
    (row_last _ _ ∙ sym (row_passed _ _ _ _ c.in_ok-refuse.ensures ∙ row_passed _ _ _ _ c.in_ok-refuse-2.ensures))
