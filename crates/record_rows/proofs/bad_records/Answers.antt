-- `record_rows::bad_records` meets its contract: its tests are those of what was read, and that is enough (`bad_as_read`).
use Rattle.record_rows.specs.BadRecords.{bad_as_read}
use Rattle.record_rows.proofs.bad_records.Goals as goal

pub returns : goal.returns
returns c =
    let a = c.args in
    rw (
      c.low_level.ensures,
      c.misfit.ensures,
      c.wrong_data.ensures,
      c.outside.ensures,
      c.bad_magic.ensures,
      c.request_length.ensures,
      c.credential_length.ensures,
      c.default_need-n.ensures,
      c.request_in-r.ensures,
      c.credential_in-c.ensures,
    )
    (bad_as_read a.credential.now a.request.now)
