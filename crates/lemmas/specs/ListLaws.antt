-- Laws of the functions on lists: places, tests at each element and each pair, what is kept, found and changed.
use Rattle.std.specs.Prelude.{◌≡◌, ◌⊎◌, Bool, not, ◌&&◌, ◌||◌, get_or, set}
use Rattle.std.proofs.Math.Path.{refl, sym, ap}
use Rattle.std.proofs.Common.{◌∙◌, true≢false, not-suc-le-zero, le_of_suc-le-suc}
use Rattle.std.proofs.Math.Logic.{inl, inr}
use Rattle.std.proofs.Math.Bool.{true, false, cond}
use Rattle.std.proofs.lemmas.Bool.{false≢true}
use Rattle.std.proofs.Math.Option
use Rattle.std.proofs.Math.Option.{some}
use mathlib.Core.List.{List, [], ◌∷◌, ◌++◌, map, Memᴰ}
use Prim.Native.Nat.{ℕ, zero, suc, ◌≤◌, ◌<◌}
use native.Mathlib.Omega.{arith}
use Rattle.std.proofs.Math.ListN.{length, length-map}
use borrow.Author.Tests.{eqb-true, eqb-false}
use Rattle.lemmas.specs.Tests.{◌is◌, ◌isnt◌, and_l, and_r, both, or_cases, or_intro_l, or_intro_r}
use Rattle.lemmas.specs.Lists.{every, some?, pairs, keep, update, find, change, missing}

-- ---- places of a list
module _ {A : Type 0} where
  pub update-map : {B : Type 0} (f : A → B) (g : A → A) (k : B → B) → ((a : A) → f (g a) ≡ k (f a))
      → (i : ℕ) (l : List A)
      → map f (update i g l) ≡ update i k (map f l)
  unfolding update
  update-map f g k e i [] = refl
  update-map f g k e zero (x ∷ xs) = ap (λ y. y ∷ map f xs) (e x)
  update-map f g k e (suc i) (x ∷ xs) = ap (λ ys. f x ∷ ys) (update-map f g k e i xs)

  pub map-append : {B : Type 0} (f : A → B) (l r : List A) → map f (l ++ r) ≡ map f l ++ map f r
  map-append f [] r = refl
  map-append f (x ∷ xs) r = ap (λ ys. f x ∷ ys) (map-append f xs r)

  pub length-update : (i : ℕ) (f : A → A) (l : List A) → length (update i f l) ≡ length l
  unfolding update
  length-update i f [] = refl
  length-update zero f (x ∷ xs) = refl
  length-update (suc i) f (x ∷ xs) = ap suc (length-update i f xs)

  pub nth_update : (i : ℕ) (f : A → A) (l : List A) (d : A) → i < length l → get_or (update i f l) i d ≡ f (get_or l i d)
  unfolding update
  nth_update i f [] d h = absurd (not-suc-le-zero h)
  nth_update zero f (x ∷ xs) d h = refl
  nth_update (suc i) f (x ∷ xs) d h = nth_update i f xs d (le_of_suc-le-suc h)

  pub nth_update_other : (i j : ℕ) (f : A → A) (l : List A) (d : A) → (j ≡ i → ⊥)
      → get_or (update i f l) j d ≡ get_or l j d
  unfolding update
  nth_update_other i j f [] d h = refl
  nth_update_other zero zero f (x ∷ xs) d h = absurd (h refl)
  nth_update_other zero (suc j) f (x ∷ xs) d h = refl
  nth_update_other (suc i) zero f (x ∷ xs) d h = refl
  nth_update_other (suc i) (suc j) f (x ∷ xs) d h = nth_update_other i j f xs d (λ e. h (ap suc e))

  -- a member of the list at place k, where the list at place i was changed: of what that became, or it was there before
  pub member_updated : (i k : ℕ) (f : List A → List A) (l : List (List A)) (a : A) → Memᴰ a (get_or (update i f l) k [])
      → ((i ≡ k) × Memᴰ a (f (get_or l i []))) ⊎ Memᴰ a (get_or l k [])
  unfolding update
  member_updated i k f [] a m = inr m
  member_updated zero zero f (x ∷ xs) a m = inl (refl, m)
  member_updated zero (suc k) f (x ∷ xs) a m = inr m
  member_updated (suc i) zero f (x ∷ xs) a m = inr m
  member_updated (suc i) (suc k) f (x ∷ xs) a m = go (member_updated i k f xs a m)
    where
      go : ((i ≡ k) × Memᴰ a (f (get_or xs i []))) ⊎ Memᴰ a (get_or xs k [])
          → ((suc i ≡ suc k) × Memᴰ a (f (get_or xs i []))) ⊎ Memᴰ a (get_or xs k [])
      go (inl e) = inl (ap suc e.0, e.1)
      go (inr n) = inr n

  -- ---- a test at each element
  pub every_nth : (t : A → Bool) (l : List A) (i : ℕ) (d : A) → t d ≡ true → every t l ≡ true → t (get_or l i d) ≡ true
  unfolding every
  every_nth t [] i d e h = e
  every_nth t (x ∷ xs) zero d e h = and_l (t x) (every t xs) h
  every_nth t (x ∷ xs) (suc i) d e h = every_nth t xs i d e (and_r (t x) (every t xs) h)

  pub every-update : (t : A → Bool) (i : ℕ) (f : A → A) (l : List A) (d : A) → t (f (get_or l i d)) ≡ true
      → every t l ≡ true → every t (update i f l) ≡ true
  unfolding every update
  every-update t i f [] d e h = refl
  every-update t zero f (x ∷ xs) d e h = both e (and_r (t x) (every t xs) h)
  every-update t (suc i) f (x ∷ xs) d e h = both (and_l (t x) (every t xs) h)
      (every-update t i f xs d e (and_r (t x) (every t xs) h))

  pub every_append : (t : A → Bool) (l r : List A) → every t l ≡ true → every t r ≡ true → every t (l ++ r) ≡ true
  unfolding every
  every_append t [] r h k = k
  every_append t (x ∷ xs) r h k = both (and_l (t x) (every t xs) h)
      (every_append t xs r (and_r (t x) (every t xs) h) k)

  pub every_one : (t : A → Bool) (x : A) → t x ≡ true → every t (x ∷ []) ≡ true
  unfolding every
  every_one t x h = both h refl

  pub every_kept : (t : A → Bool) (l : List A) → every t (keep t l) ≡ true
  unfolding every keep
  every_kept t [] = refl
  every_kept t (x ∷ xs) = go (t x) refl (every_kept t xs)
    where
      go : (b : Bool) → t x ≡ b → every t (keep t xs) ≡ true → every t (cond b (x ∷ keep t xs) (keep t xs)) ≡ true
      go true e ih = both e ih
      go false e ih = ih

  pub every_mapped : {B : Type 0} (t : B → Bool) (f : A → B) (l : List A)
      → every (λ (a : A). t (f a)) l ≡ every t (map f l)
  unfolding every
  every_mapped t f [] = refl
  every_mapped t f (x ∷ xs) = ap (λ b. t (f x) && b) (every_mapped t f xs)

  pub every_map : {B : Type 0} (t : B → Bool) (f : A → B) (l : List A) → every (λ (a : A). t (f a)) l ≡ true
      → every t (map f l) ≡ true
  every_map t f l h = sym (every_mapped t f l) ∙ h

  pub every_unmap : {B : Type 0} (t : B → Bool) (f : A → B) (l : List A) → every t (map f l) ≡ true
      → every (λ (a : A). t (f a)) l ≡ true
  every_unmap t f l h = every_mapped t f l ∙ h

  pub every_set : (t : A → Bool) (l : List A) (i : ℕ) (x : A) → t x ≡ true → every t l ≡ true
      → every t (set l i x) ≡ true
  unfolding every
  every_set t [] i x e h = h
  every_set t (y ∷ l) zero x e h = both e (and_r (t y) (every t l) h)
  every_set t (y ∷ l) (suc i) x e h =
      both (and_l (t y) (every t l) h) (every_set t l i x e (and_r (t y) (every t l) h))

  pub every_imp : (t u : A → Bool) → ((a : A) → t a ≡ true → u a ≡ true) → (l : List A) → every t l ≡ true
      → every u l ≡ true
  unfolding every
  every_imp t u f [] h = refl
  every_imp t u f (x ∷ xs) h = both (f x (and_l (t x) (every t xs) h))
      (every_imp t u f xs (and_r (t x) (every t xs) h))

  pub every-and : (t u : A → Bool) (l : List A) → every t l ≡ true → every u l ≡ true
      → every (λ (a : A). t a && u a) l ≡ true
  unfolding every
  every-and t u [] h k = refl
  every-and t u (x ∷ xs) h k =
      both (both (and_l (t x) (every t xs) h) (and_l (u x) (every u xs) k))
      (every-and t u xs (and_r (t x) (every t xs) h) (and_r (u x) (every u xs) k))

  pub every-member : (t : A → Bool) (l : List A) (a : A) → every t l ≡ true → Memᴰ a l → t a ≡ true
  unfolding every
  every-member t [] a h k = elim k [ ]
  every-member t (x ∷ xs) a h (Memᴰ.head e) = rw e (and_l (t x) (every t xs) h)
  every-member t (x ∷ xs) a h (Memᴰ.tail k) = every-member t xs a (and_r (t x) (every t xs) h) k

  pub every_of : (t : A → Bool) (l : List A) → ((a : A) → Memᴰ a l → t a ≡ true) → every t l ≡ true
  unfolding every
  every_of t [] f = refl
  every_of t (x ∷ xs) f = both (f x (Memᴰ.head refl)) (every_of t xs (λ a k. f a (Memᴰ.tail k)))

  -- ---- a test at each pair
  pub pairs-append_one : (t : A → A → Bool) (l : List A) (a : A) → pairs t l ≡ true
      → every (λ (b : A). t b a) l ≡ true → pairs t (l ++ (a ∷ [])) ≡ true
  unfolding pairs every
  pairs-append_one t [] a h k = refl
  pairs-append_one t (x ∷ xs) a h k =
      both (every_append (t x) xs (a ∷ []) (and_l (every (t x) xs) (pairs t xs) h)
      (every_one (t x) a (and_l (t x a) (every (λ (b : A). t b a) xs) k)))
      (pairs-append_one t xs a (and_r (every (t x) xs) (pairs t xs) h)
      (and_r (t x a) (every (λ (b : A). t b a) xs) k))

  pub pairs-map : (t : A → A → Bool) (f : A → A) → ((a b : A) → t (f a) (f b) ≡ t a b) → (l : List A)
      → pairs t l ≡ true → pairs t (map f l) ≡ true
  unfolding pairs
  pairs-map t f e [] h = refl
  pairs-map t f e (x ∷ xs) h =
      both (every_map (t (f x)) f xs (every_imp (t x) (λ (a : A). t (f x) (f a)) (λ a k. e x a ∙ k) xs
      (and_l (every (t x) xs) (pairs t xs) h)))
      (pairs-map t f e xs (and_r (every (t x) xs) (pairs t xs) h))

  pub pairs_unmap : {B : Type 0} (t : B → B → Bool) (f : A → B) (l : List A) → pairs t (map f l) ≡ true
      → pairs (λ (a b : A). t (f a) (f b)) l ≡ true
  unfolding pairs
  pairs_unmap t f [] h = refl
  pairs_unmap t f (x ∷ xs) h =
      both (every_unmap (t (f x)) f xs (and_l (every (t (f x)) (map f xs)) (pairs t (map f xs)) h))
      (pairs_unmap t f xs (and_r (every (t (f x)) (map f xs)) (pairs t (map f xs)) h))

  -- two members: the same one, or the test passes one way or the other
  pub pairs-members : (t : A → A → Bool) (l : List A) (a b : A) → pairs t l ≡ true → Memᴰ a l → Memᴰ b l
      → (a ≡ b) ⊎ ((t a b ≡ true) ⊎ (t b a ≡ true))
  unfolding pairs
  pairs-members t [] a b h k m = elim k [ ]
  pairs-members t (x ∷ xs) a b h (Memᴰ.head e) (Memᴰ.head f) = inl (e ∙ sym f)
  pairs-members t (x ∷ xs) a b h (Memᴰ.head e) (Memᴰ.tail k) =
      inr (inl (rw e (every-member (t x) xs b (and_l (every (t x) xs) (pairs t xs) h) k)))
  pairs-members t (x ∷ xs) a b h (Memᴰ.tail k) (Memᴰ.head f) =
      inr (inr (rw f (every-member (t x) xs a (and_l (every (t x) xs) (pairs t xs) h) k)))
  pairs-members t (x ∷ xs) a b h (Memᴰ.tail k) (Memᴰ.tail m) =
      pairs-members t xs a b (and_r (every (t x) xs) (pairs t xs) h) k m

  -- ---- what is kept, found, changed
  pub keep-map : {B : Type 0} (f : A → B) (t : B → Bool) (l : List A)
      → map f (keep (λ (a : A). t (f a)) l) ≡ keep t (map f l)
  unfolding keep
  keep-map f t [] = refl
  keep-map f t (x ∷ xs) = go (t (f x)) (keep-map f t xs)
    where
      go : (b : Bool) → map f (keep (λ (a : A). t (f a)) xs) ≡ keep t (map f xs)
          → map f (cond b (x ∷ keep (λ (a : A). t (f a)) xs) (keep (λ (a : A). t (f a)) xs))
          ≡ cond b (f x ∷ keep t (map f xs)) (keep t (map f xs))
      go true ih = ap (λ ys. f x ∷ ys) ih
      go false ih = ih

  pub member-keep : (t : A → Bool) (l : List A) (a : A) → Memᴰ a (keep t l) → Memᴰ a l
  unfolding keep
  member-keep t [] a k = k
  member-keep t (x ∷ xs) a k = go (t x) (λ k. member-keep t xs a k) k
    where
      first : (Memᴰ a (keep t xs) → Memᴰ a xs) → Memᴰ a (x ∷ keep t xs) → Memᴰ a (x ∷ xs)
      first ih (Memᴰ.head e) = Memᴰ.head e
      first ih (Memᴰ.tail k) = Memᴰ.tail (ih k)

      go : (b : Bool) → (Memᴰ a (keep t xs) → Memᴰ a xs) → Memᴰ a (cond b (x ∷ keep t xs) (keep t xs))
          → Memᴰ a (x ∷ xs)
      go true ih k = first ih k
      go false ih k = Memᴰ.tail (ih k)

  pub every-keep : (t u : A → Bool) (l : List A) → every t l ≡ true → every t (keep u l) ≡ true
  every-keep t u l h = every_of t (keep u l) (λ a k. every-member t l a h (member-keep u l a k))

  pub pairs-keep : (t : A → A → Bool) (u : A → Bool) (l : List A) → pairs t l ≡ true → pairs t (keep u l) ≡ true
  unfolding pairs keep
  pairs-keep t u [] h = refl
  pairs-keep t u (x ∷ xs) h = go (u x) (pairs-keep t u xs (and_r (every (t x) xs) (pairs t xs) h))
    where
      go : (b : Bool) → pairs t (keep u xs) ≡ true → pairs t (cond b (x ∷ keep u xs) (keep u xs)) ≡ true
      go true ih = both (every-keep (t x) u xs (and_l (every (t x) xs) (pairs t xs) h)) ih
      go false ih = ih

  pub keep-passes : (t : A → Bool) (l : List A) (a : A) → Memᴰ a (keep t l) → t a ≡ true
  keep-passes t l a k = every-member t (keep t l) a (every_kept t l) k

  pub keep-member : (t : A → Bool) (l : List A) (a : A) → Memᴰ a l → t a ≡ true → Memᴰ a (keep t l)
  unfolding keep
  keep-member t [] a k h = elim k [ ]
  keep-member t (x ∷ xs) a (Memᴰ.head e) h = rw (ap t (sym e) ∙ h) (Memᴰ.head e)
  keep-member t (x ∷ xs) a (Memᴰ.tail k) h = go (t x) (keep-member t xs a k h)
    where
      go : (b : Bool) → Memᴰ a (keep t xs) → Memᴰ a (cond b (x ∷ keep t xs) (keep t xs))
      go true ih = Memᴰ.tail ih
      go false ih = ih

  pub length-keep : (t : A → Bool) (l : List A) → length (keep t l) ≤ length l
  unfolding keep
  length-keep t [] = omega arith
  length-keep t (x ∷ xs) = go (t x) (length-keep t xs)
    where
      go : (b : Bool) → length (keep t xs) ≤ length xs → length (cond b (x ∷ keep t xs) (keep t xs)) ≤ suc (length xs)
      go true ih = omega arith
      go false ih = omega arith

  pub find-map : {B : Type 0} (f : A → B) (number : B → ℕ) (n : ℕ) (l : List A)
      → find number n (map f l) ≡ Option.map f (find (λ (a : A). number (f a)) n l)
  unfolding find
  find-map f number n [] = refl
  find-map f number n (x ∷ xs) = go (number (f x) is n) (find-map f number n xs)
    where
      go : (b : Bool) → find number n (map f xs) ≡ Option.map f (find (λ (a : A). number (f a)) n xs)
          → cond b (some (f x)) (find number n (map f xs))
          ≡ Option.map f (cond b (some x) (find (λ (a : A). number (f a)) n xs))
      go true ih = refl
      go false ih = ih

  -- a member found: it is in the list and has the number
  pub found : (number : A → ℕ) (n : ℕ) (l : List A) → missing (find number n l) ≡ false → (a : A)
      × (find number n l ≡ some a) × Memᴰ a l × (number a ≡ n)
  unfolding find missing
  found number n [] h = absurd (true≢false h)
  found number n (x ∷ xs) h = go (number x is n) refl (λ k. found number n xs k) h
    where
      go : (b : Bool) → (number x is n) ≡ b → (missing (find number n xs) ≡ false → (a : A)
          × (find number n xs ≡ some a) × Memᴰ a xs × (number a ≡ n))
          → missing (cond b (some x) (find number n xs)) ≡ false
          → (a : A) × (cond b (some x) (find number n xs) ≡ some a) × Memᴰ a (x ∷ xs) × (number a ≡ n)
      go true e ih k = (x, refl, Memᴰ.head refl, eqb-true (number x) n e)
      go false e ih k = ((ih k).0, (ih k).1, Memᴰ.tail (ih k).2, (ih k).3)

  -- none found: no member has the number
  pub not_found : (number : A → ℕ) (n : ℕ) (l : List A) → missing (find number n l) ≡ true
      → every (λ (a : A). number a isnt n) l ≡ true
  unfolding find missing every
  not_found number n [] h = refl
  not_found number n (x ∷ xs) h = go (number x is n) (λ k. not_found number n xs k) h
    where
      go : (b : Bool) → (missing (find number n xs) ≡ true → every (λ (a : A). number a isnt n) xs ≡ true)
          → missing (cond b (some x) (find number n xs)) ≡ true
          → (not b && every (λ (a : A). number a isnt n) xs) ≡ true
      go true ih k = absurd (false≢true k)
      go false ih k = ih k

  pub length-change : (number : A → ℕ) (n : ℕ) (g : A → A) (l : List A) → length (change number n g l) ≡ length l
  unfolding change
  length-change number n g l = length-map l (λ (x : A). cond (number x is n) (g x) x)

  pub change-map : {B : Type 0} (f : A → B) (number : B → ℕ) (n : ℕ) (g : A → A) (k : B → B)
      → ((a : A) → f (g a) ≡ k (f a)) → (l : List A)
      → map f (change (λ (a : A). number (f a)) n g l) ≡ change number n k (map f l)
  unfolding change
  change-map f number n g k e [] = refl
  change-map f number n g k e (x ∷ xs) = λ i. go (number (f x) is n) i ∷ change-map f number n g k e xs i
    where
      go : (b : Bool) → f (cond b (g x) x) ≡ cond b (k (f x)) (f x)
      go true = e x
      go false = refl

  pub change-map_same : {B : Type 0} (f : A → B) (number : A → ℕ) (n : ℕ) (g : A → A) → ((a : A) → f (g a) ≡ f a)
      → (l : List A)
      → map f (change number n g l) ≡ map f l
  unfolding change
  change-map_same f number n g e [] = refl
  change-map_same f number n g e (x ∷ xs) = λ i. go (number x is n) i ∷ change-map_same f number n g e xs i
    where
      go : (b : Bool) → f (cond b (g x) x) ≡ f x
      go true = e x
      go false = refl

  -- a member of the changed list: an unchanged one of another number, or a changed one
  pub member-change : (number : A → ℕ) (n : ℕ) (g : A → A) (l : List A) (a : A) → Memᴰ a (change number n g l)
      → (Memᴰ a l × (number a ≡ n → ⊥)) ⊎ ((b : A) × Memᴰ b l × (number b ≡ n) × (a ≡ g b))
  unfolding change
  member-change number n g [] a k = elim k [ ]
  member-change number n g (x ∷ xs) a (Memᴰ.head e) = go (number x is n) refl e
    where
      go : (b : Bool) → (number x is n) ≡ b → a ≡ cond b (g x) x → (Memᴰ a (x ∷ xs) × (number a ≡ n → ⊥))
          ⊎ ((b : A) × Memᴰ b (x ∷ xs) × (number b ≡ n) × (a ≡ g b))
      go true e k = inr (x, Memᴰ.head refl, eqb-true (number x) n e, k)
      go false e k = inl (Memᴰ.head k, rw k (eqb-false (number x) n e))
  member-change number n g (x ∷ xs) a (Memᴰ.tail m) = go (member-change number n g xs a m)
    where
      go : (Memᴰ a xs × (number a ≡ n → ⊥)) ⊎ ((b : A) × Memᴰ b xs × (number b ≡ n) × (a ≡ g b))
          → (Memᴰ a (x ∷ xs) × (number a ≡ n → ⊥))
          ⊎ ((b : A) × Memᴰ b (x ∷ xs) × (number b ≡ n) × (a ≡ g b))
      go (inl r) = inl (Memᴰ.tail r.0, r.1)
      go (inr r) = inr (r.0, Memᴰ.tail r.1, r.2, r.3)

  -- ---- some element
  pub some_append_l : (t : A → Bool) (l r : List A) → some? t l ≡ true → some? t (l ++ r) ≡ true
  unfolding some?
  some_append_l t [] r h = absurd (false≢true h)
  some_append_l t (x ∷ xs) r h = go (t x) (λ k. some_append_l t xs r k) h
    where
      go : (b : Bool) → (some? t xs ≡ true → some? t (xs ++ r) ≡ true) → (b || some? t xs) ≡ true
          → (b || some? t (xs ++ r)) ≡ true
      go true ih k = refl
      go false ih k = ih k

  pub some_append_r : (t : A → Bool) (l : List A) (a : A) → t a ≡ true → some? t (l ++ (a ∷ [])) ≡ true
  unfolding some?
  some_append_r t [] a h = or_intro_l (t a) false h
  some_append_r t (x ∷ xs) a h = or_intro_r (t x) (some? t (xs ++ (a ∷ []))) (some_append_r t xs a h)

  -- where the test passes the element is kept: it passes at some element as before
  pub some_keep : (t u : A → Bool) (l : List A) → ((a : A) → t a ≡ true → u a ≡ true)
      → some? t (keep u l) ≡ some? t l
  unfolding some? keep
  some_keep t u [] f = refl
  some_keep t u (x ∷ xs) f = go (u x) (t x) refl refl (some_keep t u xs f)
    where
      go : (b c : Bool) → u x ≡ b → t x ≡ c → some? t (keep u xs) ≡ some? t xs
          → some? t (cond b (x ∷ keep u xs) (keep u xs)) ≡ (c || some? t xs)
      go true c e k ih = ap (λ (d : Bool). t x || d) ih ∙ ap (λ (d : Bool). d || some? t xs) k
      go false true e k ih = absurd (false≢true (sym e ∙ f x k))
      go false false e k ih = ih

  -- it passes at some element exactly where a member passes it
  pub some_member : (t : A → Bool) (l : List A) → some? t l ≡ true → (a : A) × Memᴰ a l × (t a ≡ true)
  unfolding some?
  some_member t [] h = absurd (false≢true h)
  some_member t (x ∷ xs) h = go (λ k. some_member t xs k) (or_cases (t x) (some? t xs) h)
    where
      go : (some? t xs ≡ true → (a : A) × Memᴰ a xs × (t a ≡ true)) → (t x ≡ true) ⊎ (some? t xs ≡ true)
          → (a : A) × Memᴰ a (x ∷ xs) × (t a ≡ true)
      go ih (inl e) = (x, Memᴰ.head refl, e)
      go ih (inr k) = ((ih k).0, Memᴰ.tail (ih k).1, (ih k).2)

  pub member_some : (t : A → Bool) (l : List A) (a : A) → Memᴰ a l → t a ≡ true → some? t l ≡ true
  unfolding some?
  member_some t [] a k h = elim k [ ]
  member_some t (x ∷ xs) a (Memᴰ.head e) h = or_intro_l (t x) (some? t xs) (ap t (sym e) ∙ h)
  member_some t (x ∷ xs) a (Memᴰ.tail k) h = or_intro_r (t x) (some? t xs) (member_some t xs a k h)

  pub some_same : (t u : A → Bool) → ((a : A) → t a ≡ u a) → (l : List A) → some? t l ≡ some? u l
  unfolding some?
  some_same t u e [] = refl
  some_same t u e (x ∷ xs) = λ i. e x i || some_same t u e xs i

  pub some_mapped : {B : Type 0} (t : B → Bool) (f : A → B) (l : List A)
      → some? (λ (a : A). t (f a)) l ≡ some? t (map f l)
  unfolding some?
  some_mapped t f [] = refl
  some_mapped t f (x ∷ xs) = ap (λ b. t (f x) || b) (some_mapped t f xs)

  -- a store is a change of one element
  pub set_as_update : (l : List A) (i : ℕ) (f : A → A) (d x : A) → x ≡ f (get_or l i d) → set l i x ≡ update i f l
  unfolding update
  set_as_update [] i f d x e = refl
  set_as_update (y ∷ l) zero f d x e = ap (λ z. z ∷ l) e
  set_as_update (y ∷ l) (suc i) f d x e = ap (λ zs. y ∷ zs) (set_as_update l i f d x e)

  -- a store in a list is a change of its image
  pub set-update : {B : Type 0} (f : A → B) (l : List A) (i : ℕ) (x : A) (b : B) → f x ≡ b
      → map f (set l i x) ≡ update i (λ (old : B). b) (map f l)
  unfolding update
  set-update f [] i x b e = refl
  set-update f (y ∷ l) zero x b e = ap (λ z. z ∷ map f l) e
  set-update f (y ∷ l) (suc i) x b e = ap (λ zs. f y ∷ zs) (set-update f l i x b e)
