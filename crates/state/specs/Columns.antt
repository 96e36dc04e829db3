-- A table's columns: the numbers of its objects in a row, and likewise their versions, sizes and starts. t: a table.
use Rattle.std.specs.Prelude.{◌≡◌, List, map, ℕ, ◌+◌, ◌≤◌, ◌<◌, length, get_or, take, drop}
use Rattle.std.proofs.Common.{refl, sym, ap, ◌∙◌, arith, ne_eqb, length-take, length-drop, get_or-take, get_or-drop}
use Rattle.std.proofs.lemmas.List.{ext_get_or, take-map}
use Rattle.std.proofs.Math.Seq.{take-take}
use Rattle.std.proofs.Math.Decide.{ℕ_discrete}
use Rattle.lemmas.specs.Loops.{take_within}
use Rattle.rules.specs.declared.Object.{Object}
use Rattle.rules.specs.Drive.{most_objects}
use Rattle.state.specs.Table.{numbers_from, versions_from, sizes_from, starts_from, table_size, object_at, range, places, count_in, objects_in}
use Rattle.state.specs.Places.{range_length, range_at, places-length, objects-length}

-- the n numbers from place a on
abbrev pub column : List ℕ → ℕ → ℕ → List ℕ
column t a n = take n (drop a t)

-- ---- a column is what a field of the objects at all its places says
column_is : (t : List ℕ) (a n : ℕ) → a + n ≤ length t → column t a n ≡ map (λ (i : ℕ). get_or t (a + i) 0) (range 0 n)
column_is t a n h = ext_get_or 0 (column t a n) (map f (range 0 n)) (long ∙ sym (range_length f 0 n)) same
  where
    f : ℕ → ℕ
    f i = get_or t (a + i) 0

    long : length (column t a n) ≡ n
    long = let d = length-drop a t in let k = length-take n (drop a t) in omega arith

    same : (i : ℕ) → i < length (column t a n) → get_or (column t a n) i 0 ≡ get_or (map f (range 0 n)) i 0
    same i m =
        let z : 0 + i ≡ i = omega arith in
        let k : i < n = omega (arith, long) in
        get_or-take n (drop a t) i 0 k ∙ get_or-drop a t i 0 ∙ sym (range_at f 0 n i 0 k ∙ ap f z)

module _ (t : List ℕ) (e : length t ≡ table_size) where
  pub numbers_are : column t numbers_from most_objects ≡ map Object.number (places t)
  unfolding places object_at
  numbers_are = column_is t numbers_from most_objects (omega arith)

  pub versions_are : column t versions_from most_objects ≡ map Object.version (places t)
  unfolding places object_at
  versions_are = column_is t versions_from most_objects (omega arith)

  pub sizes_are : column t sizes_from most_objects ≡ map Object.size (places t)
  unfolding places object_at
  sizes_are = column_is t sizes_from most_objects (omega arith)

  pub starts_are : column t starts_from most_objects ≡ map Object.start (places t)
  unfolding places object_at
  starts_are = column_is t starts_from most_objects (omega arith)

-- ---- and its front what that field of the objects in use says
abbrev pub front : List ℕ → ℕ → List ℕ
front t a = column t a (length (objects_in t))

front_is : (t : List ℕ) (f : Object → ℕ) (a : ℕ) → column t a most_objects ≡ map f (places t) → front t a ≡ map f (objects_in t)
unfolding objects_in
front_is t f a e =
    let n = objects-length t in
    sym (take-take (length (objects_in t)) most_objects (drop a t) (omega arith))
    ∙ ap (take (length (objects_in t))) e
    ∙ take-map f (length (objects_in t)) (places t)
    ∙ ap (map f) (take_within (count_in t) most_objects (places t) (places-length t) (length (objects_in t)) n)

front_any : (t : List ℕ) (f : Object → ℕ) (a : ℕ) → (length t ≡ table_size → column t a most_objects ≡ map f (places t))
    → front t a ≡ map f (objects_in t)
unfolding objects_in
front_any t f a e = go (ℕ_discrete (length t) table_size)
  where
    go : Dec (length t ≡ table_size) → front t a ≡ map f (objects_in t)
    go (yes l) = front_is t f a (e l)
    go (no n) = rw (ne_eqb (length t) table_size n) refl

pub front_numbers : (t : List ℕ) → front t numbers_from ≡ map Object.number (objects_in t)
front_numbers t = front_any t Object.number numbers_from (numbers_are t)

pub front_sizes : (t : List ℕ) → front t sizes_from ≡ map Object.size (objects_in t)
front_sizes t = front_any t Object.size sizes_from (sizes_are t)

pub front_starts : (t : List ℕ) → front t starts_from ≡ map Object.start (objects_in t)
front_starts t = front_any t Object.start starts_from (starts_are t)
