-- `octets::layout::fields_fit` meets its contract.
use Rattle.std.proofs.Common.{ℕ, ◌+◌, List, get_or, drop, sym, ◌∙◌, arith}
use borrow.Author.Tests.{le-ltb, lt-ltb}
use Rattle.octets.proofs.FieldLaws.{field_first, fit_end, fit_step}
use Rattle.octets.proofs.layout.fields_fit.Goals as goal
use Rattle.octets.proofs.layout.fields_fit.Goals.{then-w-gt8-via-then-w-gt8, then-w-gt8-via-else-w-gt8+then-w-rest}

pub returns-then-w-gt8 : goal.returns-then-w-gt8
returns-then-w-gt8 c =
    let l = c.loop-w in
    let i : ℕ = l.w-index in
    let ws : List ℕ = c.args.widths.now in
    let step = fit_step (get_or ws i 0) (drop (i + 1) ws) l.rest in
    let whole = rw (field_first ws i (omega arith)) at l.invariant in
    elim c.then-w-gt8.branch [ then-w-gt8-via-then-w-gt8 w ↦ sym (step ∙ rw (lt-ltb _ _ w.if-w-gt8.true)) ∙ whole | then-w-gt8-via-else-w-gt8+then-w-rest w ↦ sym (step ∙ rw (le-ltb _ _ w.if-w-gt8.false, lt-ltb _ _ w.if-w-rest.true)) ∙ whole ]

pub loop-w-preserved : goal.loop-w-preserved
loop-w-preserved c =
    let l = c.loop-w in
    let i : ℕ = l.w-index in
    let ws : List ℕ = c.args.widths.now in
    sym (fit_step (get_or ws i 0) (drop (i + 1) ws) l.rest ∙ rw (le-ltb _ _ c.if-w-gt8.false, le-ltb _ _ c.if-w-rest.false)) ∙ rw (field_first ws i (omega arith)) at l.invariant

pub returns : goal.returns
returns c =
    let l = c.loop-w in
    sym (fit_end c.args.widths.now l.w-index l.rest (omega arith)) ∙ l.invariant
