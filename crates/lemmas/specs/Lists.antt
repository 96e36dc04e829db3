-- Functions on lists that rules are written with.
use Rattle.std.specs.Prelude.{Bool, true, false, ◌&&◌, ◌||◌, cond, List, [], ◌∷◌, ◌++◌, map, ℕ, zero, suc, ◌+◌, length, take, drop}
use Rattle.std.proofs.Math.Option.{Option, none, some}
use Rattle.lemmas.specs.Tests.{◌is◌}

-- ---- parts of a list
-- the n elements from place i on
unfoldable pub part : {A : Type 0} → List A → ℕ → ℕ → List A
part s i n = take n (drop i s)

-- s with new in place of what stood there from place i on; all else keeps its value
unfoldable pub splice : {A : Type 0} → List A → ℕ → List A → List A
splice s i new = take i s ++ (new ++ drop (i + length new) s)

-- the same numbers in the same order
unfoldable pub same : List ℕ → List ℕ → Bool
same [] [] = true
same [] (y ∷ ys) = false
same (x ∷ xs) [] = false
same (x ∷ xs) (y ∷ ys) = x is y && same xs ys

-- ---- tests over a list, and what they choose
module _ {A : Type 0} where
  -- the test passes at each element
  unfoldable pub every : (A → Bool) → List A → Bool
  every t [] = true
  every t (x ∷ xs) = t x && every t xs

  -- the test passes at some element
  unfoldable pub some? : (A → Bool) → List A → Bool
  some? t [] = false
  some? t (x ∷ xs) = t x || some? t xs

  -- the test passes at each element with each later one
  unfoldable pub pairs : (A → A → Bool) → List A → Bool
  pairs t [] = true
  pairs t (x ∷ xs) = every (t x) xs && pairs t xs

  -- the elements at which the test passes, in their order
  unfoldable pub keep : (A → Bool) → List A → List A
  keep t [] = []
  keep t (x ∷ xs) = cond (t x) (x ∷ keep t xs) (keep t xs)

  -- the list with f applied to the element at place i
  unfoldable pub update : ℕ → (A → A) → List A → List A
  update i f [] = []
  update zero f (x ∷ xs) = f x ∷ xs
  update (suc i) f (x ∷ xs) = x ∷ update i f xs

  -- the first element whose number is n
  unfoldable pub find : (A → ℕ) → ℕ → List A → Option A
  find number n [] = none
  find number n (x ∷ xs) = cond (number x is n) (some x) (find number n xs)

  -- the list with f applied to the elements whose number is n
  unfoldable pub change : (A → ℕ) → ℕ → (A → A) → List A → List A
  change number n f xs = map (λ (x : A). cond (number x is n) (f x) x) xs

  unfoldable pub missing : Option A → Bool
  missing none = true
  missing (some x) = false
