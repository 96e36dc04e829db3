-- A table of rows, in the order in which they are judged: the answer is the first row that applies, or 0 where none
-- does.
use Rattle.std.specs.Prelude.{◌≡◌, refl, Bool, true, false, not, ◌&&◌, ◌||◌, cond, ◌⊎◌, ℕ, ◌≤◌, leb, eqb}
use Rattle.std.proofs.Common.{sym, ◌∙◌, inl, inr, arith, leb-true, eq-eqb}
use Rattle.std.proofs.lemmas.Bool.{false≢true, eqb-false, not-true}
use mathlib.Core.List.{List, [], ◌∷◌, ◌++◌, map, Memᴰ}
use Rattle.std.proofs.Math.Decide.{ℕ_discrete}
use Rattle.lemmas.specs.Tests.{◌is◌, ◌isnt◌, and_l, and_r, both, or_intro_l, or_intro_r}
use Rattle.lemmas.specs.Lists.{every, some?}

-- a row's number, and whether it applies
pub record Row : Type 0 where
  pub row : ℕ
  pub applies : Bool

abbrev pub line : ℕ → Bool → Row
line row applies = record { row = row; applies = applies }

unfoldable pub first_row : List Row → ℕ
first_row [] = 0
first_row (r ∷ rs) = cond r.applies r.row (first_row rs)

-- every row has a number of its own from 1: said of a written table by `refl`
abbrev pub numbered : List Row → Bool
numbered rs = every (λ (r : Row). r.row isnt 0) rs

-- whether the row numbered n applies; false where the table has no such row
unfoldable pub applies : ℕ → List Row → Bool
applies n [] = false
applies n (r ∷ rs) = cond (r.row is n) r.applies (applies n rs)

-- ---- laws
cond_false : (b c : Bool) → c ≡ false → cond b false c ≡ false
cond_false true c e = refl
cond_false false c e = e

-- the answer is 0: no row of the table applies
pub none_applies : (rs : List Row) → numbered rs ≡ true → first_row rs ≡ 0 → (n : ℕ) → applies n rs ≡ false
unfolding applies every first_row
none_applies [] p h n = refl
none_applies (r ∷ rs) p h n = go r.applies refl h (λ p k. none_applies rs p k n)
  where
    go : (b : Bool) → r.applies ≡ b → cond b r.row (first_row rs) ≡ 0
        → (numbered rs ≡ true → first_row rs ≡ 0 → applies n rs ≡ false)
        → cond (r.row is n) r.applies (applies n rs) ≡ false
    go true e k ih = absurd (eqb-false r.row 0
        (not-true (eqb r.row 0) (and_l (r.row isnt 0) (numbered rs) p)) k)
    go false e k ih = rw e (cond_false (r.row is n) (applies n rs) (ih (and_r (r.row isnt 0) (numbered rs) p) k))

-- a row that applies is the answer, and one that does not is passed over
pub row_here : (r : Row) (rs : List Row) → r.applies ≡ true → first_row (r ∷ rs) ≡ r.row
unfolding first_row
row_here r rs e = rw e refl

pub row_next : (r : Row) (rs : List Row) → r.applies ≡ false → first_row (r ∷ rs) ≡ first_row rs
unfolding first_row
row_next r rs e = rw e refl

-- the answer is 0 exactly where every row's test fails
abbrev pub clear : List Row → Bool
clear rs = every (λ (r : Row). not r.applies) rs

pub clear_zero : (rs : List Row) → clear rs ≡ true → first_row rs ≡ 0
unfolding every first_row
clear_zero [] h = refl
clear_zero (r ∷ rs) h =
    rw (not-true r.applies (and_l (not r.applies) (clear rs) h))
    (clear_zero rs (and_r (not r.applies) (clear rs) h))

pub zero_clear : (rs : List Row) → numbered rs ≡ true → first_row rs ≡ 0 → clear rs ≡ true
unfolding every first_row
zero_clear [] p h = refl
zero_clear (r ∷ rs) p h = go r.applies h (zero_clear rs (and_r (r.row isnt 0) (numbered rs) p))
  where
    go : (b : Bool) → cond b r.row (first_row rs) ≡ 0 → (first_row rs ≡ 0 → clear rs ≡ true)
        → (not b && clear rs) ≡ true
    go true k ih = absurd (eqb-false r.row 0 (not-true (eqb r.row 0) (and_l (r.row isnt 0) (numbered rs) p)) k)
    go false k ih = ih k

-- the answer is a number of the table, or 0
pub row_of : (rs : List Row) → (first_row rs ≡ 0) ⊎ Memᴰ (first_row rs) (map Row.row rs)
unfolding first_row
row_of [] = inl refl
row_of (r ∷ rs) = go r.applies (row_of rs)
  where
    go : (b : Bool) → (first_row rs ≡ 0) ⊎ Memᴰ (first_row rs) (map Row.row rs)
        → (cond b r.row (first_row rs) ≡ 0) ⊎ Memᴰ (cond b r.row (first_row rs)) (r.row ∷ map Row.row rs)
    go true ih = inr (Memᴰ.head refl)
    go false (inl z) = inl z
    go false (inr k) = inr (Memᴰ.tail k)

-- so it is at most n where all of them are
pub row_below : (n : ℕ) (rs : List Row) → every (λ (r : Row). leb r.row n) rs ≡ true → first_row rs ≤ n
unfolding every first_row
row_below n [] h = omega arith
row_below n (r ∷ rs) h = go r.applies (row_below n rs
    (and_r (leb r.row n) (every (λ (r : Row). leb r.row n) rs) h))
  where
    go : (b : Bool) → first_row rs ≤ n → cond b r.row (first_row rs) ≤ n
    go true k = leb-true r.row n (and_l (leb r.row n) (every (λ (r : Row). leb r.row n) rs) h)
    go false k = k

-- where the answer is n, a row of that number applies
pub answer-applies : (n : ℕ) (rs : List Row) → (0 is n) ≡ false → first_row rs ≡ n
    → some? (λ (r : Row). r.row is n && r.applies) rs ≡ true
unfolding first_row some?
answer-applies n [] z h = absurd (false≢true (sym z ∙ eq-eqb 0 n h))
answer-applies n (r ∷ rs) z h = go r.applies refl h (answer-applies n rs z)
  where
    rest : Bool
    rest = some? (λ (r : Row). r.row is n && r.applies) rs

    go : (b : Bool) → r.applies ≡ b → cond b r.row (first_row rs) ≡ n → (first_row rs ≡ n → rest ≡ true)
        → (r.row is n && r.applies || rest) ≡ true
    go true e k ih = or_intro_l (r.row is n && r.applies) rest (both (eq-eqb r.row n k) e)
    go false e k ih = or_intro_r (r.row is n && r.applies) rest (ih k)

-- a number that no row of the table has is not the answer
pub row_isnt : (n : ℕ) (rs : List Row) → every (λ (r : Row). r.row isnt n) rs ≡ true → (0 is n) ≡ false
    → (first_row rs is n) ≡ false
unfolding every first_row
row_isnt n [] h z = z
row_isnt n (r ∷ rs) h z = go r.applies (row_isnt n rs
    (and_r (r.row isnt n) (every (λ (r : Row). r.row isnt n) rs) h) z)
  where
    go : (b : Bool) → (first_row rs is n) ≡ false → (cond b r.row (first_row rs) is n) ≡ false
    go true k = not-true (r.row is n) (and_l (r.row isnt n) (every (λ (r : Row). r.row isnt n) rs) h)
    go false k = k

-- ---- one table after another: no row of the first applies, or one does
pub rows-passed : (rs bs : List Row) → numbered rs ≡ true → first_row rs ≡ 0 → first_row (rs ++ bs) ≡ first_row bs
unfolding first_row every
rows-passed [] bs n z = refl
rows-passed (r ∷ rs) bs n z = go r.applies z (rows-passed rs bs (and_r (r.row isnt 0) (numbered rs) n))
  where
    go : (b : Bool) → cond b r.row (first_row rs) ≡ 0 → (first_row rs ≡ 0 → first_row (rs ++ bs) ≡ first_row bs)
        → cond b r.row (first_row (rs ++ bs)) ≡ first_row bs
    go true k ih = absurd (eqb-false r.row 0 (not-true (r.row is 0) (and_l (r.row isnt 0) (numbered rs) n)) k)
    go false k ih = ih k

pub rows_met : (rs bs : List Row) → (first_row rs ≡ 0 → ⊥) → first_row (rs ++ bs) ≡ first_row rs
unfolding first_row
rows_met [] bs z = absurd (z refl)
rows_met (r ∷ rs) bs z = go r.applies z (rows_met rs bs)
  where
    go : (b : Bool) → (cond b r.row (first_row rs) ≡ 0 → ⊥)
        → ((first_row rs ≡ 0 → ⊥) → first_row (rs ++ bs) ≡ first_row rs)
        → cond b r.row (first_row (rs ++ bs)) ≡ cond b r.row (first_row rs)
    go true k ih = refl
    go false k ih = ih k

-- no row of both: none of either
pub rows_zero : (rs bs : List Row) → numbered rs ≡ true → first_row (rs ++ bs) ≡ 0 → (first_row rs ≡ 0) × (first_row bs ≡ 0)
rows_zero rs bs n z = go (ℕ_discrete (first_row rs) 0)
  where
    go : Dec (first_row rs ≡ 0) → (first_row rs ≡ 0) × (first_row bs ≡ 0)
    go (yes e) = (e, sym (rows-passed rs bs n e) ∙ z)
    go (no e) = absurd (e (sym (rows_met rs bs e) ∙ z))
