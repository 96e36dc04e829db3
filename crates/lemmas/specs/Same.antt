-- Laws of `same`, the test that two lists of numbers are one.
use Rattle.std.specs.Prelude.{◌≡◌, refl, true, false, ◌&&◌, List, [], ◌∷◌, ◌++◌, ℕ, suc, eqb, length}
use Rattle.std.proofs.Common.{sym, ap, suc-ne-zero, arith, eq-eqb, eqb-true}
use Rattle.std.proofs.lemmas.Bool.{false≢true}
use Rattle.std.proofs.Math.Bool.{and-true, and-false, and_assoc}
use Rattle.lemmas.specs.Tests.{and_l, and_r}
use Rattle.lemmas.specs.Lists.{same}

-- a list is the same as itself, and as no other
pub same_refl : (a : List ℕ) → same a a ≡ true
unfolding same
same_refl [] = refl
same_refl (x ∷ xs) = rw (eq-eqb x x refl) (same_refl xs)

pub same_eq : (a b : List ℕ) → same a b ≡ true → a ≡ b
unfolding same
same_eq [] [] e = refl
same_eq [] (y ∷ ys) e = absurd (false≢true e)
same_eq (x ∷ xs) [] e = absurd (false≢true e)
same_eq (x ∷ xs) (y ∷ ys) e =
    let hx : x ≡ y = eqb-true x y (and_l (eqb x y) (same xs ys) e) in
    let hs : xs ≡ ys = same_eq xs ys (and_r (eqb x y) (same xs ys) e) in
    cc

-- lists of different lengths differ
pub same_lengths : (a b : List ℕ) → (length a ≡ length b → ⊥) → same a b ≡ false
unfolding same
same_lengths [] [] h = absurd (h refl)
same_lengths [] (y ∷ ys) h = refl
same_lengths (x ∷ xs) [] h = refl
same_lengths (x ∷ xs) (y ∷ ys) h = rw (same_lengths xs ys (λ e. h (ap suc e))) (and-false (eqb x y))

-- one more number on each
pub same_snoc : (a b : List ℕ) (x y : ℕ) → length a ≡ length b
    → same (a ++ (x ∷ [])) (b ++ (y ∷ [])) ≡ (same a b && eqb x y)
unfolding same
same_snoc [] [] x y h = and-true (eqb x y)
same_snoc [] (b ∷ bs) x y h = absurd (suc-ne-zero (length bs) (sym h))
same_snoc (a ∷ ys) [] x y h = absurd (suc-ne-zero (length ys) h)
same_snoc (a ∷ ys) (b ∷ bs) x y h =
    rw (same_snoc ys bs x y (omega (arith, h))) (sym (and_assoc (eqb a b) (same ys bs) (eqb x y)))
