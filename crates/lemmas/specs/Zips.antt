-- Laws of `zip_with`, the list of what f makes of the elements of two lists, as many as the shorter one has: how many, the
-- i-th, a store, a part, and two lists behind two others.
use Rattle.std.specs.Prelude.{◌≡◌, length, get_or, take, drop, set}
use Rattle.std.proofs.Math.Path.{refl, ap}
use mathlib.Core.List.{List, [], ◌∷◌, ◌++◌, zip_with}
use Prim.Native.Nat.{ℕ, zero, suc, ◌<◌, min}
use Rattle.std.proofs.Common.{not-suc-le-zero, le_of_suc-le-suc}
use native.Mathlib.Omega.{arith}

module _ {A B C : Type 0} (f : A → B → C) where
  pub zip_length : (xs : List A) (ys : List B) → length (zip_with f xs ys) ≡ min (length xs) (length ys)
  unfolding zip_with
  zip_length [] ys = omega arith
  zip_length (x ∷ xs) [] = omega arith
  zip_length (x ∷ xs) (y ∷ ys) = omega (arith, zip_length xs ys)

  pub zip_at : (xs : List A) (ys : List B) (i : ℕ) (a : A) (b : B) (c : C) → i < length (zip_with f xs ys)
      → get_or (zip_with f xs ys) i c ≡ f (get_or xs i a) (get_or ys i b)
  unfolding zip_with
  zip_at [] ys i a b c h = absurd (not-suc-le-zero h)
  zip_at (x ∷ xs) [] i a b c h = absurd (not-suc-le-zero h)
  zip_at (x ∷ xs) (y ∷ ys) zero a b c h = refl
  zip_at (x ∷ xs) (y ∷ ys) (suc i) a b c h = zip_at xs ys i a b c (le_of_suc-le-suc h)

  pub zip-set : (xs : List A) (ys : List B) (i : ℕ) (x : A) (y : B)
      → zip_with f (set xs i x) (set ys i y) ≡ set (zip_with f xs ys) i (f x y)
  unfolding zip_with
  zip-set [] ys i x y = refl
  zip-set (v ∷ xs) [] zero x y = refl
  zip-set (v ∷ xs) [] (suc i) x y = refl
  zip-set (v ∷ xs) (w ∷ ys) zero x y = refl
  zip-set (v ∷ xs) (w ∷ ys) (suc i) x y = ap (λ (l : List C). f v w ∷ l) (zip-set xs ys i x y)

  pub zip-take : (k : ℕ) (xs : List A) (ys : List B) → zip_with f (take k xs) (take k ys) ≡ take k (zip_with f xs ys)
  unfolding zip_with
  zip-take zero xs ys = refl
  zip-take (suc k) [] ys = refl
  zip-take (suc k) (x ∷ xs) [] = refl
  zip-take (suc k) (x ∷ xs) (y ∷ ys) = ap (λ (l : List C). f x y ∷ l) (zip-take k xs ys)

  pub zip-drop : (k : ℕ) (xs : List A) (ys : List B) → zip_with f (drop k xs) (drop k ys) ≡ drop k (zip_with f xs ys)
  unfolding zip_with
  zip-drop zero xs ys = refl
  zip-drop (suc k) [] ys = refl
  zip-drop (suc k) (x ∷ xs) [] = none (drop k xs)
    where
      none : (xs : List A) → zip_with f xs [] ≡ []
      none [] = refl
      none (x ∷ xs) = refl
  zip-drop (suc k) (x ∷ xs) (y ∷ ys) = zip-drop k xs ys

  pub zip-append : (xs vs : List A) (ys ws : List B) → length xs ≡ length ys
      → zip_with f (xs ++ vs) (ys ++ ws) ≡ zip_with f xs ys ++ zip_with f vs ws
  unfolding zip_with
  zip-append [] vs [] ws e = refl
  zip-append [] vs (y ∷ ys) ws e = absurd (omega arith)
  zip-append (x ∷ xs) vs [] ws e = absurd (omega arith)
  zip-append (x ∷ xs) vs (y ∷ ys) ws e = ap (λ (l : List C). f x y ∷ l) (zip-append xs vs ys ws (omega arith))
