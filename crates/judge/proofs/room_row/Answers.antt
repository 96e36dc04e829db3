-- Each row that did not refuse is passed over, and one that refuses is the first.
use Rattle.std.proofs.Common.{◌∙◌, sym}
use Rattle.state.specs.Table.{partition_in}
use Rattle.rules.proofs.Refused.{row_handed_on}
use Rattle.judge.proofs.Judged.{cond_refused, cond_passed, cond_last, missing_none, there_some}
use Rattle.judge.proofs.room_row.Goals as goal

pub returns-in_err-refuse : goal.returns-in_err-refuse
unfolding partition_in
returns-in_err-refuse c =
    row_handed_on _ _ c.from_residual.ensures.1
    ∙ rw (← c.look_up-taken.ensures, there_some c.look_up-taken.result, ← c.is_some.ensures)
    (cond_refused _ _ _ _ c.in_err-refuse.ensures)

pub returns-in_err-refuse-2 : goal.returns-in_err-refuse-2
unfolding partition_in
returns-in_err-refuse-2 c =
    row_handed_on _ _ c.from_residual-in_err-refuse-2.ensures.1
    ∙ rw (← c.look_up-taken.ensures, there_some c.look_up-taken.result, ← c.is_some.ensures, ← c.object_count.ensures.0)
    (cond_refused _ _ _ _ c.in_err-refuse-2.ensures
    ∙ sym (cond_passed _ _ _ _ c.in_ok-refuse.ensures))

pub returns-in_err-refuse-3 : goal.returns-in_err-refuse-3
unfolding partition_in
returns-in_err-refuse-3 c =
    row_handed_on _ _ c.from_residual-in_err-refuse-3.ensures.1
    ∙ rw (← c.look_up-taken.ensures, there_some c.look_up-taken.result, ← c.is_some.ensures, ← c.object_count.ensures.0, missing_none c.args.k.place c.is_none.result c.is_none.ensures)
    (cond_refused _ _ _ _ c.in_err-refuse-3.ensures
    ∙ sym (cond_passed _ _ _ _ c.in_ok-refuse.ensures
    ∙ cond_passed _ _ _ _ c.in_ok-refuse-2.ensures))

pub returns-in_err-refuse-4 : goal.returns-in_err-refuse-4
unfolding partition_in
returns-in_err-refuse-4 c =
    row_handed_on _ _ c.from_residual-in_err-refuse-4.ensures.1
    ∙ rw (← c.look_up-taken.ensures, there_some c.look_up-taken.result, ← c.is_some.ensures, ← c.object_count.ensures.0, missing_none c.args.k.place c.is_none.result c.is_none.ensures, ← c.gives_version.ensures, ← c.number_at.ensures)
    (cond_refused _ _ _ _ c.in_err-refuse-4.ensures
    ∙ sym (cond_passed _ _ _ _ c.in_ok-refuse.ensures
    ∙ cond_passed _ _ _ _ c.in_ok-refuse-2.ensures
    ∙ cond_passed _ _ _ _ c.in_ok-refuse-3.ensures))

pub returns-in_err-refuse-5 : goal.returns-in_err-refuse-5
unfolding partition_in
returns-in_err-refuse-5 c =
    row_handed_on _ _ c.from_residual-in_err-refuse-5.ensures.1
    ∙ rw (← c.look_up-taken.ensures, there_some c.look_up-taken.result, ← c.is_some.ensures, ← c.object_count.ensures.0, missing_none c.args.k.place c.is_none.result c.is_none.ensures, ← c.gives_version.ensures, ← c.number_at.ensures)
    (cond_refused _ _ _ _ c.in_err-refuse-5.ensures
    ∙ sym (cond_passed _ _ _ _ c.in_ok-refuse.ensures
    ∙ cond_passed _ _ _ _ c.in_ok-refuse-2.ensures
    ∙ cond_passed _ _ _ _ c.in_ok-refuse-3.ensures
    ∙ cond_passed _ _ _ _ c.in_ok-refuse-4.ensures))

pub returns-in_err-refuse-6 : goal.returns-in_err-refuse-6
unfolding partition_in
returns-in_err-refuse-6 c =
    row_handed_on _ _ c.from_residual-in_err-refuse-6.ensures.1
    ∙ rw (← c.look_up-taken.ensures, there_some c.look_up-taken.result, ← c.is_some.ensures, ← c.object_count.ensures.0, missing_none c.args.k.place c.is_none.result c.is_none.ensures, ← c.gives_version.ensures, ← c.number_at.ensures)
    (cond_refused _ _ _ _ c.in_err-refuse-6.ensures
    ∙ sym (cond_passed _ _ _ _ c.in_ok-refuse.ensures
    ∙ cond_passed _ _ _ _ c.in_ok-refuse-2.ensures
    ∙ cond_passed _ _ _ _ c.in_ok-refuse-3.ensures
    ∙ cond_passed _ _ _ _ c.in_ok-refuse-4.ensures
    ∙ cond_passed _ _ _ _ c.in_ok-refuse-5.ensures))

pub returns : goal.returns
unfolding partition_in
returns c =
    rw (c.refuse-7.ensures, ← c.look_up-taken.ensures, there_some c.look_up-taken.result, ← c.is_some.ensures, ← c.object_count.ensures.0, missing_none c.args.k.place c.is_none.result c.is_none.ensures, ← c.gives_version.ensures, ← c.number_at.ensures)
    (cond_last _ _
    ∙ sym (cond_passed _ _ _ _ c.in_ok-refuse.ensures
    ∙ cond_passed _ _ _ _ c.in_ok-refuse-2.ensures
    ∙ cond_passed _ _ _ _ c.in_ok-refuse-3.ensures
    ∙ cond_passed _ _ _ _ c.in_ok-refuse-4.ensures
    ∙ cond_passed _ _ _ _ c.in_ok-refuse-5.ensures
    ∙ cond_passed _ _ _ _ c.in_ok-refuse-6.ensures))
