-- What the answers so far tell of rows that are judged from top to bottom, each by a `refuse` with a `?`.
-- t: a row's test. r: its refusal. e: what was answered. rest: what the rows below it give.
use Rattle.std.specs.Prelude.{◌≡◌, refl, Bool, true, false, not, cond, ℕ, Option, None, Some, Result, Ok, Err, is_some}
use Rattle.lemmas.specs.Tests.{◌is◌, ◌isnt◌}
use Rattle.lemmas.specs.Lists.{missing}
use Rattle.lemmas.specs.Options.{option_of}
use Rattle.rules.specs.declared.refusal.Refusal.{Refusal}
use Rattle.rules.specs.Refusals.{answer_row, refusal_row, refused_when}
use Rattle.rules.proofs.Refused.{row_isnt_zero}

-- a row refused, or it is passed over; the last one
pub cond_refused : (t : Bool) (r e : Refusal) (rest : ℕ) → Err e ≡ refused_when t r → refusal_row e ≡ cond t (refusal_row r) rest
cond_refused true r e rest h = let s : e ≡ r = cc in rw s refl
cond_refused false r e rest h = cc

pub cond_passed : (t : Bool) (r : Refusal) (u : Unit {0}) (rest : ℕ) → Ok u ≡ refused_when t r → cond t (refusal_row r) rest ≡ rest
cond_passed true r u rest h = cc
cond_passed false r u rest h = refl

pub cond_last : (t : Bool) (r : Refusal) → answer_row (refused_when t r) ≡ cond t (refusal_row r) 0
cond_last true r = refl
cond_last false r = refl

-- an answer that was worked out before refused, or it did not
pub told_refused : (a : Result (Unit {0}) Refusal) (e : Refusal) (rest : ℕ) → a ≡ Err e
    → refusal_row e ≡ cond (answer_row a isnt 0) (answer_row a) rest
told_refused a e rest h = rw (h, row_isnt_zero e) refl

pub told_passed : (a : Result (Unit {0}) Refusal) (u : Unit {0}) (rest : ℕ) → a ≡ Ok u
    → cond (answer_row a isnt 0) (answer_row a) rest ≡ rest
told_passed a u rest h = rw h refl

-- rows that are judged apart, f0 their answer alone, fr with the rest below: they refused, or the rest is judged
pub stop_at : (e : Refusal) (f0 fr rest : ℕ) → fr ≡ cond (f0 is 0) rest f0 → refusal_row e ≡ f0 → refusal_row e ≡ fr
stop_at e f0 fr rest j h = rw (j, ← h, row_isnt_zero e) refl

pub go_on : (f0 fr rest : ℕ) → fr ≡ cond (f0 is 0) rest f0 → 0 ≡ f0 → rest ≡ fr
go_on f0 fr rest j h = rw (j, ← h) refl

-- whether there is a value
pub missing_none : {A : Type 0} (o : Option A) (b : Bool) → is_some o ≡ not b → missing (option_of o) ≡ b
unfolding missing
missing_none None true h = refl
missing_none None false h = cc
missing_none (Some x) true h = cc
missing_none (Some x) false h = refl

pub there_some : {A : Type 0} (o : Option A) → not (missing (option_of o)) ≡ is_some o
unfolding missing
there_some None = refl
there_some (Some x) = refl
