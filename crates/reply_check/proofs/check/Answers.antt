-- Row 0 and the part after the head by `check-granted`, its end inside the reply by `check-end`; or the row and nothing by `check_refused_by`.
use Rattle.std.proofs.Common.{◌≡◌, ◌∙◌, ◌+◌, ◌-◌, ℕ, arith, ap, refl, sym, take, drop}
use Rattle.lemmas.specs.Lists.{part}
use Rattle.rules.specs.Operations.{head_size, result_length}
use Rattle.reply_check.specs.CheckLaws.{check-end, check-granted, check_refused_by}
use Rattle.reply_check.specs.Met.{place_after}
use Rattle.rules.proofs.Refused.{handed_on}
use Rattle.reply_check.proofs.check.Goals as goal

pub returns-in_err-check_row : goal.returns-in_err-check_row
returns-in_err-check_row c =
    let a = c.args in
    rw (handed_on c.from_residual.result _ c.from_residual.ensures.1)
    (check_refused_by a.credential.now a.request.now a.key.now a.reply _ _ c.in_err-check_row.ensures refl refl)

pub slice_bounds-result-end : goal.slice_bounds-result-end
slice_bounds-result-end c =
    let a = c.args in
    let long = c.result_length-n.ensures ∙ ap result_length c.request_in.ensures in
    omega (arith, check-end a.credential.now a.request.now a.key.now a.reply.now (sym c.in_ok-check_row.ensures), long)

pub returns : goal.returns
unfolding part
returns c =
    let a = c.args in
    let n = c.result_length-n.result in
    let o : ℕ = a.reply.ref_ptr.1 in
    let count : head_size + n - head_size ≡ n = omega arith in
    let behind : head_size + o ≡ (place_after a.reply head_size).1 = omega arith in
    check-granted a.credential.now a.request.now a.key.now a.reply _ (sym c.in_ok-check_row.ensures) n (c.result_length-n.ensures ∙ ap result_length c.request_in.ensures)
    (ap (λ (m : ℕ). take m (drop head_size a.reply.now)) count)
    (λ i. (a.reply.ref_ptr.0, behind i))
