-- Laws of a table's places: how many there are, each of them, the objects in use, and a search among these; and of its
-- operation table.
use Rattle.std.specs.Prelude.{◌≡◌, refl, Bool, true, false, cond, List, map, ℕ, zero, suc, ◌+◌, ◌≤◌, ◌<◌, min, length, get_or}
use Rattle.std.proofs.Common.{sym, ◌∙◌, not-suc-le-zero, le_of_suc-le-suc, arith, length-take, get_or-take, eqb-true, eq-eqb}
use Rattle.std.proofs.Math.Path.{ap}
use Rattle.std.proofs.Math.Option.{none, some}
use Rattle.lemmas.specs.Tests.{◌is◌}
use Rattle.lemmas.specs.Lists.{find}
use Rattle.lemmas.specs.Options.{option_of}
use Rattle.std.specs.Prelude.{not, ◌==◌, slice_get, Option, Some, None, [], ◌∷◌, position}
use Rattle.std.specs.List.{position_or_len}
use Rattle.std.proofs.lemmas.Option.{cond_some, slice_get_past}
use Rattle.std.proofs.lemmas.List.{length-map}
use Rattle.std.proofs.Math.Numerals.{one-add}
use borrow.Author.Tests.{ltb-false}
use Rattle.std.specs.Prelude.{nat_lt}
use Rattle.rules.specs.declared.Need.{Need}
use Rattle.rules.specs.declared.Object.{Object}
use Rattle.rules.specs.Drive.{most_objects}
use Rattle.rules.specs.Needs.{needs_count}
use Rattle.rules.specs.Operations.{no_object}
use Rattle.state.specs.Padded.{padded_is}
use Rattle.state.specs.Table.{count_at, table_size, object_at, range, places, count_in, objects_in, partition_in, partition_view, need_in, needs_in}

-- ---- numbers in a row, mapped
pub range_length : {A : Type 0} (f : ℕ → A) (a n : ℕ) → length (map f (range a n)) ≡ n
range_length f a zero = refl
range_length f a (suc n) = ap suc (range_length f (a + 1) n)

pub range_at : {A : Type 0} (f : ℕ → A) (a n k : ℕ) (d : A) → k < n → get_or (map f (range a n)) k d ≡ f (a + k)
range_at f a zero k d h = absurd (not-suc-le-zero h)
range_at f a (suc n) zero d h = let e : a ≡ a + 0 = omega arith in ap f e
range_at f a (suc n) (suc k) d h =
    let e : (a + 1) + k ≡ a + suc k = omega arith in range_at f (a + 1) n k d (le_of_suc-le-suc h) ∙ ap f e

-- ---- the places
pub places-length : (t : List ℕ) → length (places t) ≡ most_objects
unfolding places
places-length t = range_length (object_at t) 0 most_objects

pub places_at : (t : List ℕ) (i : ℕ) → i < most_objects → get_or (places t) i no_object ≡ object_at t i
unfolding places
places_at t i h = let e : 0 + i ≡ i = omega arith in range_at (object_at t) 0 most_objects i no_object h ∙ ap (object_at t) e

-- ---- the operation table
pub needs-length : (t : List ℕ) → length (needs_in t) ≡ needs_count
unfolding needs_in
needs-length t = range_length (need_in t) 0 needs_count

pub needs_at_lem : (t : List ℕ) (i : ℕ) (d : Need) → i < needs_count → get_or (needs_in t) i d ≡ need_in t i
unfolding needs_in
needs_at_lem t i d h = let e : 0 + i ≡ i = omega arith in range_at (need_in t) 0 needs_count i d h ∙ ap (need_in t) e

-- ---- the objects in use
pub objects-length : (t : List ℕ) → length (objects_in t) ≡ min (count_in t) most_objects
unfolding objects_in
objects-length t = length-take (count_in t) (places t) ∙ ap (min (count_in t)) (places-length t)

-- a list with an object in use is a table
pub objects-table : (t : List ℕ) → 0 < length (objects_in t) → length t ≡ table_size
objects-table t h = go (length t is table_size) refl (omega (arith, objects-length t))
  where
    go : (b : Bool) → (length t is table_size) ≡ b → 0 < cond b (get_or t count_at 0) 0 → length t ≡ table_size
    go true e m = eqb-true (length t) table_size e
    go false e m = absurd (not-suc-le-zero m)

pub objects_at : (t : List ℕ) (i : ℕ) → i < length (objects_in t) → get_or (objects_in t) i no_object ≡ object_at t i
unfolding objects_in
objects_at t i h =
    let n = objects-length t in
    get_or-take (count_in t) (places t) i no_object (omega arith) ∙ places_at t i (omega arith)

-- a table's count
pub count_is : (t : List ℕ) → length t ≡ table_size → count_in t ≡ get_or t count_at 0
count_is t e = rw (eq-eqb (length t) table_size e) refl

-- a table whose count is within its places
pub view_is : (t : List ℕ) → length t ≡ table_size → get_or t count_at 0 ≤ most_objects → partition_view t ≡ partition_in t
unfolding partition_view partition_in objects_in
view_is t e h = rw (padded_is most_objects no_object (get_or t count_at 0) (places t) h, count_is t e) refl

-- ---- a search by number: the first place where it stands, and the object there
module _ (n : ℕ) where
  abbrev stands : ℕ → Bool
  stands k = k == n

  found_at : (xs : List Object) → option_of (slice_get xs (position_or_len stands (map Object.number xs))) ≡ find Object.number n xs
  unfolding find
  found_at [] = refl
  found_at (x ∷ xs) = go (x.number == n) (found_at xs)
    where
      go : (b : Bool) → option_of (slice_get xs (position_or_len stands (map Object.number xs))) ≡ find Object.number n xs
          → option_of (slice_get (x ∷ xs) (cond (not b) (1 + position_or_len stands (map Object.number xs)) 0))
          ≡ cond b (some x) (find Object.number n xs)
      go true ih = refl
      go false ih = rw one-add ih

  pub found : (xs : List Object) (i : ℕ) → Some i ≡ position stands (map Object.number xs)
      → option_of (slice_get xs i) ≡ find Object.number n xs
  found xs i e = rw (cond_some _ _ _ (sym e)).1 at (found_at xs)

  pub missed : (xs : List Object) → None ≡ position stands (map Object.number xs) → none ≡ find Object.number n xs
  missed xs e = go (nat_lt at (length within)) refl
    where
      within : List ℕ
      within = map Object.number xs

      at : ℕ
      at = position_or_len stands within

      go : (b : Bool) → nat_lt at (length within) ≡ b → none ≡ find Object.number n xs
      go true h = let e' : None ≡ Some at = e ∙ rw h refl in cc
      go false h = ap (λ (o : Option Object). option_of o) (sym (slice_get_past xs at (rw length-map at (ltb-false at (length within) h)))) ∙ found_at xs
