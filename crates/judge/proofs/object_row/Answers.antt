-- Each row that did not refuse is passed over, and one that refuses is the first.
use Rattle.std.specs.Prelude.{◌≡◌, refl, Bool, true, false, cond, ℕ, Result, Ok, Err}
use Rattle.std.proofs.Common.{◌∙◌, sym, arith}
use Rattle.std.specs.Result.{result_or}
use Rattle.std.specs.Bool.{then_some}
use Rattle.std.specs.Option.{unwrap_or}
use borrow.Author.Rules.{rules}
use Rattle.lemmas.specs.Tests.{◌isnt◌}
use Rattle.rules.specs.declared.refusal.Refusal.{Refusal}
use Rattle.rules.specs.Refusals.{answer_row, refusal_row, refused_when}
use Rattle.rules.proofs.Refused.{row_handed_on, row_isnt_zero}
use Rattle.judge.proofs.Judged.{cond_refused, cond_passed, cond_last, missing_none}
use Rattle.judge.proofs.object_row.Goals as goal

-- row n: it refused, with a refusal of that row, or it is passed over
row_told : (t : Bool) (r e : Refusal) (n rest : ℕ) → Err e ≡ refused_when t r → refusal_row r ≡ n → refusal_row e ≡ cond t n rest
row_told true r e n rest h g = let s : e ≡ r = cc in rw s g
row_told false r e n rest h g = cc

row_over : (t : Bool) (r : Refusal) (u : Unit {0}) (n rest : ℕ) → Ok u ≡ refused_when t r → cond t n rest ≡ rest
row_over true r u n rest h = cc
row_over false r u n rest h = refl

-- a refusal that stands for both cases of a test
same_in_both : (b : Bool) (r : Refusal) → unwrap_or (then_some b r) r ≡ r
same_in_both true r = refl
same_in_both false r = refl

-- an answer b with the row of the one that was worked out before: it refused, or it did not
told : (a b : Result (Unit {0}) Refusal) (e : Refusal) (rest : ℕ) → b ≡ Err e → answer_row b ≡ answer_row a
    → refusal_row e ≡ cond (answer_row a isnt 0) (answer_row a) rest
told a b e rest h g = rw (← g, h, row_isnt_zero e) refl

passed : (a b : Result (Unit {0}) Refusal) (u : Unit {0}) (rest : ℕ) → b ≡ Ok u → answer_row b ≡ answer_row a
    → cond (answer_row a isnt 0) (answer_row a) rest ≡ rest
passed a b u rest h g = rw (← g, h) refl

or_itself : (a : Result (Unit {0}) Refusal) → result_or a a ≡ a
or_itself (Ok u) = refl
or_itself (Err e) = refl

pub returns-in_err-refuse : goal.returns-in_err-refuse
returns-in_err-refuse c =
    row_handed_on _ _ c.from_residual.ensures.1
    ∙ rw (missing_none c.args.k.found c.is_none.result c.is_none.ensures)
    (row_told _ _ _ _ _ c.in_err-refuse.ensures (grind (arith, same_in_both)))

pub returns-in_err-refuse-2 : goal.returns-in_err-refuse-2
returns-in_err-refuse-2 c =
    row_handed_on _ _ c.from_residual-in_err-refuse-2.ensures.1
    ∙ rw (missing_none c.args.k.found c.is_none.result c.is_none.ensures)
    (cond_refused _ _ _ _ c.in_err-refuse-2.ensures
    ∙ sym (row_over _ _ _ _ _ c.in_ok-refuse.ensures))

pub returns-in_err-k : goal.returns-in_err-k
returns-in_err-k c =
    row_handed_on _ _ c.from_residual-in_err-k.ensures.1
    ∙ rw (missing_none c.args.k.found c.is_none.result c.is_none.ensures)
    (told c.args.k.listed _ _ _ c.in_err-k.was (search (rules, or_itself))
    ∙ sym (row_over _ _ _ _ _ c.in_ok-refuse.ensures
    ∙ cond_passed _ _ _ _ c.in_ok-refuse-2.ensures))

pub returns-in_err-refuse-3 : goal.returns-in_err-refuse-3
returns-in_err-refuse-3 c =
    row_handed_on _ _ c.from_residual-in_err-refuse-3.ensures.1
    ∙ rw (missing_none c.args.k.found c.is_none.result c.is_none.ensures, ← c.is_group.ensures, missing_none c.args.k.target c.is_none-2.result c.is_none-2.ensures)
    (cond_refused _ _ _ _ c.in_err-refuse-3.ensures
    ∙ sym (row_over _ _ _ _ _ c.in_ok-refuse.ensures
    ∙ cond_passed _ _ _ _ c.in_ok-refuse-2.ensures
    ∙ passed c.args.k.listed _ _ _ c.in_ok-k.was (search (rules, or_itself))))

pub returns-in_err-refuse-4 : goal.returns-in_err-refuse-4
returns-in_err-refuse-4 c =
    row_handed_on _ _ c.from_residual-in_err-refuse-4.ensures.1
    ∙ rw (missing_none c.args.k.found c.is_none.result c.is_none.ensures, ← c.is_group.ensures, missing_none c.args.k.target c.is_none-2.result c.is_none-2.ensures, ← c.is_transfer-transfer.ensures, ← c.is_out_of_range.ensures)
    (cond_refused _ _ _ _ c.in_err-refuse-4.ensures
    ∙ sym (row_over _ _ _ _ _ c.in_ok-refuse.ensures
    ∙ cond_passed _ _ _ _ c.in_ok-refuse-2.ensures
    ∙ passed c.args.k.listed _ _ _ c.in_ok-k.was (search (rules, or_itself))
    ∙ cond_passed _ _ _ _ c.in_ok-refuse-3.ensures))

pub returns : goal.returns
returns c =
    rw (c.refuse-5.ensures, missing_none c.args.k.found c.is_none.result c.is_none.ensures, ← c.is_group.ensures, missing_none c.args.k.target c.is_none-2.result c.is_none-2.ensures, ← c.is_transfer-transfer.ensures, ← c.is_out_of_range.ensures, ← c.object_or_none-size.ensures, c.from.ensures, c.from-2.ensures, c.from-3.ensures)
    (cond_last _ _
    ∙ sym (row_over _ _ _ _ _ c.in_ok-refuse.ensures
    ∙ cond_passed _ _ _ _ c.in_ok-refuse-2.ensures
    ∙ passed c.args.k.listed _ _ _ c.in_ok-k.was (search (rules, or_itself))
    ∙ cond_passed _ _ _ _ c.in_ok-refuse-3.ensures
    ∙ cond_passed _ _ _ _ c.in_ok-refuse-4.ensures))
