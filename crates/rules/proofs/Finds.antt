-- What `find` gives after a list is changed, has lost its elements of one number, or has one more.
use mathlib.Core.Path.{◌∙◌, ◌≡◌, ap, refl, sym}
use mathlib.Core.Bool.{Bool, cond, false, false≢true, not, true}
use mathlib.Core.Option.{none, map, some}
use mathlib.Core.List.{[], ◌++◌, ◌∷◌, List}
use Prim.Native.Nat.{ℕ}
use borrow.Author.Tests.{eq-eqb, eqb-true, ne_eqb}
use Rattle.lemmas.specs.Lists.{change, find, keep, missing}
use Rattle.lemmas.specs.Tests.{◌is◌, ◌isnt◌}

module _ {A : Type 0} (number : A → ℕ) where
  -- the elements numbered n are changed
  pub find-change : (n : ℕ) (f : A → A) → ((a : A) → number (f a) ≡ number a) → (l : List A)
      → find number n (change number n f l) ≡ map f (find number n l)
  unfolding find change
  find-change n f h [] = refl
  find-change n f h (x ∷ xs) = go (number x is n) refl (find-change n f h xs)
    where
      go : (b : Bool) → (number x is n) ≡ b
          → find number n (change number n f xs) ≡ map f (find number n xs)
          → cond (number (cond b (f x) x) is n) (some (cond b (f x) x)) (find number n (change number n f xs))
          ≡ map f (cond b (some x) (find number n xs))
      go true e ih = rw (h x, e) refl
      go false e ih = rw e ih

  -- elements of another number are changed
  pub find-change-other : (k n : ℕ) (f : A → A) → ((a : A) → number (f a) ≡ number a) → (k ≡ n → ⊥) → (l : List A)
      → find number n (change number k f l) ≡ find number n l
  unfolding find change
  find-change-other k n f h ne [] = refl
  find-change-other k n f h ne (x ∷ xs) = go (number x is k) refl (find-change-other k n f h ne xs)
    where
      go : (b : Bool) → (number x is k) ≡ b
          → find number n (change number k f xs) ≡ find number n xs
          → cond (number (cond b (f x) x) is n) (some (cond b (f x) x)) (find number n (change number k f xs))
          ≡ cond (number x is n) (some x) (find number n xs)
      go true e ih =
          let other : (number x is n) ≡ false = ne_eqb (number x) n (λ d. ne (sym (eqb-true (number x) k e) ∙ d)) in
          rw (h x, other) ih
      go false e ih = ap (cond (number x is n) (some x)) ih

  -- the elements numbered n, or of another number, go
  pub find_dropped : (n : ℕ) (l : List A) → find number n (keep (λ (a : A). number a isnt n) l) ≡ none
  unfolding find keep
  find_dropped n [] = refl
  find_dropped n (x ∷ xs) = go (number x is n) refl (find_dropped n xs)
    where
      go : (b : Bool) → (number x is n) ≡ b
          → find number n (keep (λ (a : A). number a isnt n) xs) ≡ none
          → find number n (cond (not b) (x ∷ keep (λ (a : A). number a isnt n) xs)
          (keep (λ (a : A). number a isnt n) xs)) ≡ none
      go true e ih = ih
      go false e ih = rw e ih

  pub find_kept : (k n : ℕ) → (k ≡ n → ⊥) → (l : List A)
      → find number n (keep (λ (a : A). number a isnt k) l) ≡ find number n l
  unfolding find keep
  find_kept k n ne [] = refl
  find_kept k n ne (x ∷ xs) = go (number x is k) refl (find_kept k n ne xs)
    where
      go : (b : Bool) → (number x is k) ≡ b
          → find number n (keep (λ (a : A). number a isnt k) xs) ≡ find number n xs
          → find number n (cond (not b) (x ∷ keep (λ (a : A). number a isnt k) xs)
          (keep (λ (a : A). number a isnt k) xs)) ≡ cond (number x is n) (some x) (find number n xs)
      go true e ih =
          let other : (number x is n) ≡ false = ne_eqb (number x) n (λ d. ne (sym (eqb-true (number x) k e) ∙ d)) in
          rw other ih
      go false e ih = ap (cond (number x is n) (some x)) ih

  -- one of another number joins, or the only one numbered n
  pub find-appended-other : (n : ℕ) (a : A) → (number a ≡ n → ⊥) → (l : List A)
      → find number n (l ++ (a ∷ [])) ≡ find number n l
  unfolding find
  find-appended-other n a ne [] = rw (ne_eqb (number a) n ne) refl
  find-appended-other n a ne (x ∷ xs) = ap (cond (number x is n) (some x)) (find-appended-other n a ne xs)

  pub find-appended : (n : ℕ) (a : A) → number a ≡ n → (l : List A) → missing (find number n l) ≡ true
      → find number n (l ++ (a ∷ [])) ≡ some a
  unfolding find missing
  find-appended n a e [] h = rw (eq-eqb (number a) n e) refl
  find-appended n a e (x ∷ xs) h = go (number x is n) (λ k. find-appended n a e xs k) h
    where
      go : (b : Bool) → (missing (find number n xs) ≡ true → find number n (xs ++ (a ∷ [])) ≡ some a)
          → missing (cond b (some x) (find number n xs)) ≡ true
          → cond b (some x) (find number n (xs ++ (a ∷ []))) ≡ some a
      go true ih k = absurd (false≢true k)
      go false ih k = ih k
