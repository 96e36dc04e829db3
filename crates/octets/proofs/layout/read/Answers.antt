-- `octets::layout::read` meets its contract.
use Rattle.std.proofs.Common.{sym, ◌∙◌, ℕ, ◌<◌, List, length, arith, length-set}
use Rattle.octets.proofs.FieldLaws.{ahead_next, field_fits, read_step, read-end}
use Rattle.octets.proofs.layout.read.Goals as goal

pub number_at-requires : goal.number_at-requires
number_at-requires c =
    let l = c.loop-i in
    let a = c.args in
    field_fits a.widths.now l.i l.place (length a.s.now) l.invariant.0 (omega arith)

pub overflow_add-place : goal.overflow_add-place
overflow_add-place c =
    let l = c.loop-i in
    let a = c.args in
    omega (arith, (field_fits a.widths.now l.i l.place (length a.s.now) l.invariant.0 (omega arith)).0)

pub loop-i-preserved : goal.loop-i-preserved
loop-i-preserved c =
    let l = c.loop-i in
    let a = c.args in
    let ws : List ℕ = a.widths.now in
    let h : l.i < length ws = omega arith in (
      ahead_next ws l.i l.place (length a.s.now) l.invariant.0 h,
      simp length-set l.invariant.1,
      rw c.number_at.ensures.0 (read_step ws l.i l.place (length a.s.now) l.invariant.0 h a.s.now l.numbers (omega (arith, l.invariant.1)) ∙ l.invariant.2),
    )

pub returns : goal.returns
returns c =
    let l = c.loop-i in
    let a = c.args in
    rw (← c.if-not-fields_fit.ensures) (sym (read-end a.widths.now l.numbers a.s.now l.i l.place (omega arith) l.invariant.1) ∙ l.invariant.2)
