-- Laws of stores into a table: what a store does to its first three numbers, to its objects and to its operation table.
use Rattle.std.specs.Prelude.{◌≡◌, List, ℕ, ◌+◌, ◌≤◌, ◌<◌, length, get_or, set}
use Rattle.std.proofs.Common.{sym, ap, ◌∙◌, arith, ext_get_or}
use Rattle.std.proofs.Math.Decide.{ℕ_discrete}
use Rattle.std.proofs.Math.ListN.{length-set}
use Rattle.std.proofs.Math.Seq.{get_or-set_same, get_or-set_other}
use Rattle.rules.specs.declared.Object.{Object}
use Rattle.rules.specs.declared.Need.{Need}
use Rattle.rules.specs.Drive.{most_objects}
use Rattle.rules.specs.Needs.{default_need, needs_count}
use Rattle.rules.specs.Operations.{no_object, with_version}
use Rattle.state.specs.Table.{
  count_at,
  numbers_from,
  versions_from,
  sizes_from,
  starts_from,
  masks_from,
  leasts_from,
  table_size,
  object_at,
  places,
  objects_in,
  need_in,
  needs_in,
}
use Rattle.state.specs.Places.{places-length, places_at, needs-length, needs_at_lem}

-- ---- one place changes, or none
places_same : (t u : List ℕ) → ((i : ℕ) → i < most_objects → object_at u i ≡ object_at t i) → places u ≡ places t
places_same t u f =
    let n = places-length u in
    ext_get_or no_object (places u) (places t) (n ∙ sym (places-length t)) (λ i h.
    let m : i < most_objects = omega arith in
    places_at u i m ∙ f i m ∙ sym (places_at t i m))

places_put : (t u : List ℕ) (j : ℕ) (o : Object) → j < most_objects → object_at u j ≡ o
    → ((i : ℕ) → i < most_objects → (i ≡ j → ⊥) → object_at u i ≡ object_at t i) → places u ≡ set (places t) j o
places_put t u j o k e f =
    let n = places-length u in
    let m = places-length t in
    ext_get_or no_object (places u) (set (places t) j o) (n ∙ sym m ∙ sym (length-set (places t) j o)) (λ i h.
    let w : i < most_objects = omega arith in
    places_at u i w ∙ at i w (ℕ_discrete i j))
  where
    at : (i : ℕ) → i < most_objects → Dec (i ≡ j) → object_at u i ≡ get_or (set (places t) j o) i no_object
    at i w (yes q) =
        let m : j < length (places t) = omega (arith, places-length t) in
        ap (object_at u) q ∙ e ∙ sym (get_or-set_same (places t) j o no_object m)
        ∙ ap (λ (x : ℕ). get_or (set (places t) j o) x no_object) (sym q)
    at i w (no q) = f i w q ∙ sym (places_at t i w) ∙ sym (get_or-set_other (places t) j i o no_object q)

-- ---- a store at a number that is none of object i's
abbrev Apart : ℕ → ℕ → Type 0
Apart k i = (numbers_from + i ≡ k → ⊥) × (versions_from + i ≡ k → ⊥) × (sizes_from + i ≡ k → ⊥) × (starts_from + i ≡ k → ⊥)

object-apart : (t : List ℕ) (k v i : ℕ) → Apart k i → object_at (set t k v) i ≡ object_at t i
unfolding object_at
object-apart t k v i n = rw (
  get_or-set_other t k (numbers_from + i) v 0 n.0,
  get_or-set_other t k (versions_from + i) v 0 n.1,
  get_or-set_other t k (sizes_from + i) v 0 n.2,
  get_or-set_other t k (starts_from + i) v 0 n.3,
)

-- ---- a store at one of the first three numbers
pub places-head : (t : List ℕ) (j v : ℕ) → j < numbers_from → places (set t j v) ≡ places t
places-head t j v h = places_same t (set t j v) (λ i m. object-apart t j v i (omega arith))

-- a store before the count leaves the objects in use
pub objects-head : (t : List ℕ) (j v : ℕ) → j < count_at → objects_in (set t j v) ≡ objects_in t
unfolding objects_in
objects-head t j v h = rw (
  length-set t j v,
  get_or-set_other t j count_at v 0 (λ e. omega arith),
  places-head t j v (omega arith),
)

-- ---- the operation table: a store before it leaves it, and a store in it leaves the objects
needs_same : (t u : List ℕ) → ((i : ℕ) → i < needs_count → need_in u i ≡ need_in t i) → needs_in u ≡ needs_in t
needs_same t u f =
    let n = needs-length u in
    ext_get_or (default_need 0) (needs_in u) (needs_in t) (n ∙ sym (needs-length t)) (λ i h.
    let m : i < needs_count = omega arith in
    needs_at_lem u i (default_need 0) m ∙ f i m ∙ sym (needs_at_lem t i (default_need 0) m))

pub needs-set : (t : List ℕ) (j v : ℕ) → j < masks_from → needs_in (set t j v) ≡ needs_in t
unfolding need_in
needs-set t j v h = needs_same t (set t j v) (λ i m. rw (
  get_or-set_other t j (masks_from + i) v 0 (λ e. omega arith),
  get_or-set_other t j (leasts_from + i) v 0 (λ e. omega arith),
))

pub places_behind : (t : List ℕ) (j v : ℕ) → masks_from ≤ j → places (set t j v) ≡ places t
places_behind t j v h = places_same t (set t j v) (λ i m. object-apart t j v i (omega arith))

-- ---- a version stored at place j
pub places-version : (t : List ℕ) (j v : ℕ) → length t ≡ table_size → j < most_objects
    → places (set t (versions_from + j) v) ≡ set (places t) j (with_version v (object_at t j))
unfolding object_at
places-version t j v l h = places_put t (set t (versions_from + j) v) j (with_version v (object_at t j)) h here there
  where
    here : object_at (set t (versions_from + j) v) j ≡ with_version v (object_at t j)
    here = rw (
      get_or-set_other t (versions_from + j) (numbers_from + j) v 0 (λ e. omega arith),
      get_or-set_same t (versions_from + j) v 0 (omega arith),
      get_or-set_other t (versions_from + j) (sizes_from + j) v 0 (λ e. omega arith),
      get_or-set_other t (versions_from + j) (starts_from + j) v 0 (λ e. omega arith),
    )

    there : (i : ℕ) → i < most_objects → (i ≡ j → ⊥) → object_at (set t (versions_from + j) v) i ≡ object_at t i
    there i k n = object-apart t (versions_from + j) v i (omega arith)

-- ---- an object stored at place j: its four numbers
abbrev pub stored : List ℕ → ℕ → Object → List ℕ
stored t j o = set (set (set (set t (numbers_from + j) o.number) (versions_from + j) o.version) (sizes_from + j) o.size) (starts_from + j) o.start

module _ (t : List ℕ) (j : ℕ) (o : Object) where
  abbrev one : List ℕ
  one = set t (numbers_from + j) o.number

  abbrev two : List ℕ
  two = set one (versions_from + j) o.version

  abbrev three : List ℕ
  three = set two (sizes_from + j) o.size

  pub stored-length : length (stored t j o) ≡ length t
  stored-length =
      length-set three (starts_from + j) o.start ∙ length-set two (sizes_from + j) o.size ∙ length-set one (versions_from + j) o.version
      ∙ length-set t (numbers_from + j) o.number

  -- the first three numbers stay
  pub stored-head : (k : ℕ) → k < numbers_from → get_or (stored t j o) k 0 ≡ get_or t k 0
  stored-head k h =
      get_or-set_other three (starts_from + j) k o.start 0 (λ e. omega arith)
      ∙ get_or-set_other two (sizes_from + j) k o.size 0 (λ e. omega arith)
      ∙ get_or-set_other one (versions_from + j) k o.version 0 (λ e. omega arith)
      ∙ get_or-set_other t (numbers_from + j) k o.number 0 (λ e. omega arith)

  module _ (l : length t ≡ table_size) (h : j < most_objects) where
    number_here : get_or (stored t j o) (numbers_from + j) 0 ≡ o.number
    number_here =
        get_or-set_other three (starts_from + j) (numbers_from + j) o.start 0 (λ e. omega arith)
        ∙ get_or-set_other two (sizes_from + j) (numbers_from + j) o.size 0 (λ e. omega arith)
        ∙ get_or-set_other one (versions_from + j) (numbers_from + j) o.version 0 (λ e. omega arith)
        ∙ get_or-set_same t (numbers_from + j) o.number 0 (omega arith)

    version_here : get_or (stored t j o) (versions_from + j) 0 ≡ o.version
    version_here =
        get_or-set_other three (starts_from + j) (versions_from + j) o.start 0 (λ e. omega arith)
        ∙ get_or-set_other two (sizes_from + j) (versions_from + j) o.size 0 (λ e. omega arith)
        ∙ get_or-set_same one (versions_from + j) o.version 0 (omega (arith, length-set t (numbers_from + j) o.number))

    size_here : get_or (stored t j o) (sizes_from + j) 0 ≡ o.size
    size_here =
        get_or-set_other three (starts_from + j) (sizes_from + j) o.start 0 (λ e. omega arith)
        ∙ get_or-set_same two (sizes_from + j) o.size 0
        (omega (arith, length-set t (numbers_from + j) o.number, length-set one (versions_from + j) o.version))

    start_here : get_or (stored t j o) (starts_from + j) 0 ≡ o.start
    start_here =
        get_or-set_same three (starts_from + j) o.start 0 (omega (arith, stored-length, length-set three (starts_from + j) o.start))

    here : object_at (stored t j o) j ≡ o
    unfolding object_at
    here = rw (number_here, version_here, size_here, start_here)

    there : (i : ℕ) → i < most_objects → (i ≡ j → ⊥) → object_at (stored t j o) i ≡ object_at t i
    there i k n =
        object-apart three (starts_from + j) o.start i (omega arith)
        ∙ object-apart two (sizes_from + j) o.size i (omega arith)
        ∙ object-apart one (versions_from + j) o.version i (omega arith)
        ∙ object-apart t (numbers_from + j) o.number i (omega arith)

    pub places-stored : places (stored t j o) ≡ set (places t) j o
    places-stored = places_put t (stored t j o) j o h here there

    pub needs-stored : needs_in (stored t j o) ≡ needs_in t
    needs-stored =
        needs-set three (starts_from + j) o.start (omega arith)
        ∙ needs-set two (sizes_from + j) o.size (omega arith)
        ∙ needs-set one (versions_from + j) o.version (omega arith)
        ∙ needs-set t (numbers_from + j) o.number (omega arith)

-- ---- what operation i + 1 needs, stored: its two numbers
abbrev pub need_stored : List ℕ → ℕ → Need → List ℕ
need_stored t i n = set (set t (masks_from + i) n.mask) (leasts_from + i) n.least

module _ (t : List ℕ) (i : ℕ) (n : Need) where
  abbrev masked : List ℕ
  masked = set t (masks_from + i) n.mask

  pub need-stored-length : length (need_stored t i n) ≡ length t
  need-stored-length = length-set masked (leasts_from + i) n.least ∙ length-set t (masks_from + i) n.mask

  -- what stands before stays
  pub need-stored-head : (k : ℕ) → k < numbers_from → get_or (need_stored t i n) k 0 ≡ get_or t k 0
  need-stored-head k h =
      get_or-set_other masked (leasts_from + i) k n.least 0 (λ e. omega arith)
      ∙ get_or-set_other t (masks_from + i) k n.mask 0 (λ e. omega arith)

  pub places-need-stored : places (need_stored t i n) ≡ places t
  places-need-stored =
      places_behind masked (leasts_from + i) n.least (omega arith) ∙ places_behind t (masks_from + i) n.mask (omega arith)

  module _ (l : length t ≡ table_size) (h : i < needs_count) where
    need_here : need_in (need_stored t i n) i ≡ n
    unfolding need_in
    need_here = rw (
      get_or-set_other masked (leasts_from + i) (masks_from + i) n.least 0 (λ e. omega arith),
      get_or-set_same t (masks_from + i) n.mask 0 (omega arith),
      get_or-set_same masked (leasts_from + i) n.least 0 (omega (arith, length-set t (masks_from + i) n.mask)),
    )

    need_there : (k : ℕ) → k < needs_count → (k ≡ i → ⊥) → need_in (need_stored t i n) k ≡ need_in t k
    unfolding need_in
    need_there k m e = rw (
      get_or-set_other masked (leasts_from + i) (masks_from + k) n.least 0 (λ q. omega arith),
      get_or-set_other t (masks_from + i) (masks_from + k) n.mask 0 (λ q. omega arith),
      get_or-set_other masked (leasts_from + i) (leasts_from + k) n.least 0 (λ q. omega arith),
      get_or-set_other t (masks_from + i) (leasts_from + k) n.mask 0 (λ q. omega arith),
    )

    pub needs-need-stored : needs_in (need_stored t i n) ≡ set (needs_in t) i n
    needs-need-stored =
        let a = needs-length (need_stored t i n) in
        let b = needs-length t in
        ext_get_or n (needs_in (need_stored t i n)) (set (needs_in t) i n) (a ∙ sym b ∙ sym (length-set (needs_in t) i n)) (λ k m.
        let w : k < needs_count = omega arith in
        needs_at_lem (need_stored t i n) k n w ∙ at k w (ℕ_discrete k i))
      where
        at : (k : ℕ) → k < needs_count → Dec (k ≡ i) → need_in (need_stored t i n) k ≡ get_or (set (needs_in t) i n) k n
        at k w (yes q) =
            ap (need_in (need_stored t i n)) q ∙ need_here
            ∙ sym (get_or-set_same (needs_in t) i n n (omega (arith, needs-length t)))
            ∙ ap (λ (x : ℕ). get_or (set (needs_in t) i n) x n) (sym q)
        at k w (no q) = need_there k w q ∙ sym (needs_at_lem t k n w) ∙ sym (get_or-set_other (needs_in t) i k n n q)
