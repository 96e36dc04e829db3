-- `wire::outcome::fields_or_row` meets its contract: a row that refuses is the answer; where none does, the enum and the option lose
-- nothing of the numbers, and the parts lie in the frame.
use Rattle.std.proofs.Common.{◌∙◌, sym, arith}
use Rattle.rules.proofs.Refused.{row_isnt_zero}
use Rattle.wire.specs.Parse.{fields_of, answer_by, records_answer}
use Rattle.wire.specs.ParseLaws.{answered_by, arguments_kept, length_kept, member_kept, numbers_kept}
use Rattle.wire.proofs.outcome.fields_or_row.Goals as goal

pub returns-in_err-record_row : goal.returns-in_err-record_row
unfolding records_answer answer_by
returns-in_err-record_row c =
    answered_by _ _ c.from_residual.ensures.1
    ∙ rw (← c.in_err-record_row.ensures, row_isnt_zero c.in_err-record_row.field-0.0)

pub operation_of-requires : goal.operation_of-requires
operation_of-requires c = let a = c.args in arguments_kept a.c a.r a.at a.len (sym c.in_ok-record_row.ensures)

pub member_of-requires : goal.member_of-requires
member_of-requires c = let a = c.args in member_kept a.c a.r a.at a.len (sym c.in_ok-record_row.ensures) c.requires

pub starts_behind-requires : goal.starts_behind-requires
starts_behind-requires c =
    let a = c.args in
    omega (arith, length_kept a.c a.r a.at a.len (sym c.in_ok-record_row.ensures), c.ranges.len)

pub returns : goal.returns
unfolding records_answer answer_by
returns c =
    let a = c.args in
    let o = c.operation_of in
    let m = c.member_of in
    let s = c.starts_behind in
    rw (← c.in_ok-record_row.ensures)
    (λ i. fields_of a.c
    (numbers_kept a.c a.r a.at a.len (sym c.in_ok-record_row.ensures) o.result m.result s.result
    o.ensures.0 o.ensures.1 o.ensures.2 m.ensures.0 m.ensures.1 i)
    (s.ensures i))
