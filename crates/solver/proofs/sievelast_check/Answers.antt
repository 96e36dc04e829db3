-- The reply check's own promise, in numbers: `checked_granted`, `checked_refused`.
use Rattle.std.proofs.Common.{refl}
use Rattle.std.proofs.lemmas.Bool.{eqb-false}
use Rattle.rules.specs.Refusals.{refusal_row}
use Rattle.rules.proofs.Refused.{row_isnt_zero}
use Rattle.solver.specs.CheckedLaws.{checked_granted, checked_refused}
use Rattle.solver.proofs.sievelast_check.Goals as goal

pub returns-in-Ok : goal.returns-in-Ok
returns-in-Ok c =
    let a = c.args in checked_granted a.credential.now a.request.now a.key.now a.reply _ c.in-Ok.part c.in-Ok.ensures refl

pub returns-in-Err : goal.returns-in-Err
returns-in-Err c =
    let a = c.args in
    let e = c.in-Err.refusal in
    rw (c.from.ensures, c.row.ensures)
    (checked_refused a.credential.now a.request.now a.key.now a.reply _ _ c.in-Err.ensures (eqb-false (refusal_row e) 0 (row_isnt_zero e)))
