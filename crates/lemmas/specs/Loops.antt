-- Laws for loops: what one element more at the end of `take i l`, which a turn adds, does to tests, choices and maps.
use Rattle.std.specs.Prelude.{◌≡◌, Bool, ◌&&◌, ◌||◌, length, get_or, take, set}
use Rattle.std.proofs.Math.Path.{refl, sym, ap}
use Rattle.std.proofs.Common.{◌∙◌, true≢false, not-suc-le-zero, le_of_suc-le-suc, add-one, arith, take-suc, take-suc-set, take_all}
use Rattle.std.proofs.Math.Bool.{true, false, not, cond, and-true, and_assoc, or-false, or_assoc}
use Rattle.std.proofs.Math.Option.{none, some}
use mathlib.Core.List.{List, [], ◌∷◌, ◌++◌, map, append-nil}
use Prim.Native.Nat.{ℕ, zero, suc, ◌+◌, ◌<◌, min}
use Rattle.std.proofs.Math.Decide.{dec_lt}
use Rattle.lemmas.specs.Tests.{◌is◌}
use Rattle.lemmas.specs.Lists.{every, some?, pairs, keep, find}
use Rattle.lemmas.specs.ListLaws.{map-append}

and_swap : (a b c d : Bool) → (a && b && (c && d)) ≡ (a && c && (b && d))
and_swap true true c d = refl
and_swap true false true d = refl
and_swap true false false d = refl
and_swap false b c d = refl

module _ {A B : Type 0} where
  -- f over the elements, from the first on
  abbrev pub fold : (B → A → B) → B → List A → B
  fold f b [] = b
  fold f b (x ∷ xs) = fold f (f b x) xs

  fold_more : (f : B → A → B) (b : B) (xs : List A) (x : A) → fold f b (xs ++ (x ∷ [])) ≡ f (fold f b xs) x
  fold_more f b [] x = refl
  fold_more f b (y ∷ xs) x = fold_more f (f b y) xs x

  pub fold-take : (f : B → A → B) (b : B) (l : List A) (i : ℕ) (d : A) → i < length l
      → fold f b (take (i + 1) l) ≡ f (fold f b (take i l)) (get_or l i d)
  fold-take f b l i d h = rw (add-one, take-suc l i d h, fold_more)

module _ {A : Type 0} where
  -- ---- an array l of k places with a count n: a count over the length is the length
  module _ (n k : ℕ) (l : List A) (e : length l ≡ k) where
    pub take_within : (i : ℕ) → i ≡ min n k → take i l ≡ take n l
    take_within i q = go (dec_lt n k)
      where
        go : Dec (n < k) → take i l ≡ take n l
        go (yes h) = let p : i ≡ n = omega arith in ap (λ (i : ℕ). take i l) p
        go (no h) = take_all i l (omega arith) ∙ sym (take_all n l (omega arith))

  -- ---- one element more at the end of a list
  some_more : (t : A → Bool) (xs : List A) (x : A) → some? t (xs ++ (x ∷ [])) ≡ some? t xs || t x
  unfolding some?
  some_more t [] x = or-false (t x)
  some_more t (y ∷ xs) x = ap (λ b. t y || b) (some_more t xs x) ∙ sym (or_assoc (t y) (some? t xs) (t x))

  every_more : (t : A → Bool) (xs : List A) (x : A) → every t (xs ++ (x ∷ [])) ≡ every t xs && t x
  unfolding every
  every_more t [] x = and-true (t x)
  every_more t (y ∷ xs) x = ap (λ b. t y && b) (every_more t xs x) ∙ sym (and_assoc (t y) (every t xs) (t x))

  pairs_more : (t : A → A → Bool) (xs : List A) (x : A)
      → pairs t (xs ++ (x ∷ [])) ≡ pairs t xs && every (λ (y : A). t y x) xs
  unfolding pairs every
  pairs_more t [] x = refl
  pairs_more t (y ∷ xs) x =
      rw (every_more (t y) xs x, pairs_more t xs x)
      (and_swap (every (t y) xs) (t y x) (pairs t xs) (every (λ (z : A). t z x) xs))

  keep_more : (t : A → Bool) (xs : List A) (x : A) → keep t (xs ++ (x ∷ [])) ≡ keep t xs ++ cond (t x) (x ∷ []) []
  unfolding keep
  keep_more t [] x = refl
  keep_more t (y ∷ xs) x = go (t y) (keep_more t xs x)
    where
      go : (b : Bool) → keep t (xs ++ (x ∷ [])) ≡ keep t xs ++ cond (t x) (x ∷ []) []
          → cond b (y ∷ keep t (xs ++ (x ∷ []))) (keep t (xs ++ (x ∷ [])))
          ≡ cond b (y ∷ keep t xs) (keep t xs) ++ cond (t x) (x ∷ []) []
      go true e = ap (λ l. y ∷ l) e
      go false e = e

  -- ---- a loop that stands at place i of l
  pub take_more : (l : List A) (i : ℕ) (d : A) → i < length l → take (i + 1) l ≡ take i l ++ (get_or l i d ∷ [])
  take_more l i d h = rw add-one (take-suc l i d h)

  take_more_set : (l : List A) (i : ℕ) (a : A) → i < length l → take (i + 1) (set l i a) ≡ take i l ++ (a ∷ [])
  take_more_set l i a h = rw add-one (take-suc-set l i a h)

  module _ (t : A → Bool) (l : List A) (i : ℕ) (d : A) (h : i < length l) where
    pub some_take : some? t (take (i + 1) l) ≡ some? t (take i l) || t (get_or l i d)
    some_take = rw (take_more l i d h) (some_more t (take i l) (get_or l i d))

    pub every_take : every t (take (i + 1) l) ≡ every t (take i l) && t (get_or l i d)
    every_take = rw (take_more l i d h) (every_more t (take i l) (get_or l i d))

  pub pairs-take : (t : A → A → Bool) (l : List A) (i : ℕ) (d : A) → i < length l
      → pairs t (take (i + 1) l) ≡ pairs t (take i l) && every (λ (y : A). t y (get_or l i d)) (take i l)
  pairs-take t l i d h = rw (take_more l i d h) (pairs_more t (take i l) (get_or l i d))

  module _ (t : A → Bool) (l : List A) (i : ℕ) (d : A) (h : i < length l) where
    keep-take : keep t (take (i + 1) l) ≡ keep t (take i l) ++ cond (t (get_or l i d)) (get_or l i d ∷ []) []
    keep-take = rw (take_more l i d h) (keep_more t (take i l) (get_or l i d))

    pub keep_next : t (get_or l i d) ≡ true → keep t (take (i + 1) l) ≡ keep t (take i l) ++ (get_or l i d ∷ [])
    keep_next p = keep-take ∙ rw p refl

    pub keep_same : t (get_or l i d) ≡ false → keep t (take (i + 1) l) ≡ keep t (take i l)
    keep_same p = keep-take ∙ rw p (append-nil (keep t (take i l)))

  -- a search through the first n of l that stands at i
  some_none : (x : A) → some x ≡ none → ⊥
  some_none x e = let z : ◌≡◌ {A = ℕ} 0 1 = cc in absurd (omega arith)

  pub find_hit : (number : A → ℕ) (m : ℕ) (l : List A) (i : ℕ) (d : A) (n : ℕ) → i < length l → i < n
      → find number m (take i l) ≡ none → (number (get_or l i d) is m) ≡ true
      → find number m (take n l) ≡ some (get_or l i d)
  unfolding find
  find_hit number m [] i d n h k e p = absurd (not-suc-le-zero h)
  find_hit number m (x ∷ l) i d zero h k e p = absurd (not-suc-le-zero k)
  find_hit number m (x ∷ l) zero d (suc n) h k e p = rw p
  find_hit number m (x ∷ l) (suc i) d (suc n) h k e p =
      go (number x is m) (λ g. find_hit number m l i d n (le_of_suc-le-suc h) (le_of_suc-le-suc k) g p) e
    where
      go : (b : Bool) → (find number m (take i l) ≡ none → find number m (take n l) ≡ some (get_or l i d))
          → cond b (some x) (find number m (take i l)) ≡ none
          → cond b (some x) (find number m (take n l)) ≡ some (get_or l i d)
      go true ih g = absurd (some_none x g)
      go false ih g = ih g

  find_more : (number : A → ℕ) (m : ℕ) (xs : List A) (x : A) → find number m xs ≡ none → (number x is m) ≡ false
      → find number m (xs ++ (x ∷ [])) ≡ none
  unfolding find
  find_more number m [] x e p = rw p
  find_more number m (y ∷ xs) x e p = go (number y is m) (λ g. find_more number m xs x g p) e
    where
      go : (b : Bool) → (find number m xs ≡ none → find number m (xs ++ (x ∷ [])) ≡ none)
          → cond b (some y) (find number m xs) ≡ none → cond b (some y) (find number m (xs ++ (x ∷ []))) ≡ none
      go true ih g = absurd (some_none y g)
      go false ih g = ih g

  pub find_pass : (number : A → ℕ) (m : ℕ) (l : List A) (i : ℕ) (d : A) → i < length l
      → find number m (take i l) ≡ none → (number (get_or l i d) is m) ≡ false → find number m (take (i + 1) l) ≡ none
  find_pass number m l i d h e p = rw (take_more l i d h) (find_more number m (take i l) (get_or l i d) e p)

  -- a test that fails at no element keeps them all
  pub keep_all : (t : A → Bool) (l : List A) → some? (λ (a : A). not (t a)) l ≡ false → keep t l ≡ l
  unfolding some? keep
  keep_all t [] h = refl
  keep_all t (x ∷ xs) h = go (t x) h (λ k. keep_all t xs k)
    where
      go : (b : Bool) → (not b || some? (λ (a : A). not (t a)) xs) ≡ false
          → (some? (λ (a : A). not (t a)) xs ≡ false → keep t xs ≡ xs)
          → cond b (x ∷ keep t xs) (keep t xs) ≡ x ∷ xs
      go true k ih = ap (λ ys. x ∷ ys) (ih k)
      go false k ih = absurd (true≢false k)

-- ---- a loop that maps the elements of l, into rs: one turn
module _ {A B : Type 0} (f : A → B) (l : List A) (i : ℕ) (d : A) (h : i < length l) where
  pub map-take : map f (take (i + 1) l) ≡ map f (take i l) ++ (f (get_or l i d) ∷ [])
  map-take = rw (take_more l i d h) (map-append f (take i l) (get_or l i d ∷ []))

pub map_took : {A B : Type 0} (f : A → B) (l : List A) (rs : List B) (i : ℕ) (d : A) (x : B)
    → i < length l → i < length rs
    → take i rs ≡ map f (take i l) → x ≡ f (get_or l i d) → take (i + 1) (set rs i x) ≡ map f (take (i + 1) l)
map_took f l rs i d x h k e p = rw (take_more_set rs i x k, map-take f l i d h, e, p)
