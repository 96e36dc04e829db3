-- Laws of the changes to a table: a store, one turn of each loop, and what the whole leaves.
-- t: the table; u, w: the table later on.
use Rattle.std.specs.Prelude.{◌≡◌, Bool, true, not, cond, ℕ, ◌+◌, ◌≤◌, ◌<◌, length, get_or, take}
use Rattle.std.proofs.Math.Path.{refl, ap}
use Rattle.std.proofs.Common.{sym, ◌∙◌, arith, length-set, get_or-set_same, get_or-set_other, take_all, take-take, eq-eqb, ne_eqb, lt-ltb, le-ltb}
use mathlib.Core.List.{List, [], ◌∷◌, ◌++◌}
use Rattle.std.proofs.Math.ListN.{set}
use Rattle.std.proofs.lemmas.List.{set-get_or}
use Rattle.lemmas.specs.Tests.{◌is◌, ◌isnt◌, ◌under◌}
use Rattle.lemmas.specs.Lists.{keep, change}
use Rattle.lemmas.specs.Fronts.{with_front, front-taken, front_store, front-map, kept_at, kept_one, kept_none}
use Rattle.rules.specs.declared.Object.{Object}
use Rattle.rules.specs.Drive.{empty_partition, most_objects}
use Rattle.rules.specs.Needs.{default_needs}
use Rattle.rules.specs.Operations.{no_object, with_version}
use Rattle.state.specs.Padded.{padded}
use Rattle.state.specs.Table.{
  version_at,
  last_at,
  count_at,
  numbers_from,
  versions_from,
  table_size,
  object_at,
  places,
  count_in,
  objects_in,
  partition_view,
}
use Rattle.state.specs.Places.{places-length, places_at, objects-length, count_is}
use Rattle.state.specs.Changes.{
  Content,
  content_of,
  with_objects,
  HasContent,
  ChangedTo,
  content_with_front,
  content_with_object,
  raised_content,
  created_content,
  deleted_content,
  content_with_needs,
  emptied_content,
}
use Rattle.state.specs.Stores.{
  places-head,
  objects-head,
  places-version,
  stored,
  stored-length,
  stored-head,
  places-stored,
  needs-set,
  needs-stored,
}

-- nothing has changed
pub content_same : (t : List ℕ) → HasContent t t (content_of t)
content_same t = record { long = refl; says = refl }

pub changed_same : (t : List ℕ) → ChangedTo t t (content_of t)
changed_same t = record { table = λ l. content_same t; other = λ n. refl }

-- a list that is no table, and one that is
pub unchanged : (t : List ℕ) (c : Content) → (length t ≡ table_size → ⊥) → ChangedTo t t c
unchanged t c n = record { table = λ l. absurd (n l); other = λ m. refl }

pub changed_table : (t u : List ℕ) (c : Content) → length t ≡ table_size → HasContent t u c → ChangedTo t u c
changed_table t u c l b = record { table = λ m. b; other = λ n. absurd (n l) }

-- the objects in use are at the first places
objects-front : (t : List ℕ) → places t ≡ with_front (objects_in t) (places t)
unfolding objects_in
objects-front t = front-taken (count_in t) (places t)

-- the places of all objects
pub objects_all : (t : List ℕ) (i : ℕ) → i ≡ length (objects_in t) → take i (places t) ≡ objects_in t
unfolding objects_in
objects_all t i e =
    let n = objects-length t in
    sym (take-take i (count_in t) (places t) (omega arith)) ∙ take_all i (objects_in t) (omega arith)

-- ---- a store
module _ (t : List ℕ) (v : ℕ) (l : length t ≡ table_size) where
  abbrev with_partition_version : Content → Content
  with_partition_version c =
      record { version = v; last = c.last; count = c.count; needs = c.needs; objects = c.objects }

  abbrev with_last : Content → Content
  with_last c = record { version = c.version; last = v; count = c.count; needs = c.needs; objects = c.objects }

  abbrev with_count : Content → Content
  with_count c = record { version = c.version; last = c.last; count = v; needs = c.needs; objects = c.objects }

  version-stored : content_of (set t version_at v) ≡ with_partition_version (content_of t)
  version-stored = rw (
    get_or-set_same t version_at v 0 (omega arith),
    get_or-set_other t version_at last_at v 0 (λ e. omega arith),
    get_or-set_other t version_at count_at v 0 (λ e. omega arith),
    needs-set t version_at v (omega arith),
    places-head t version_at v (omega arith),
  )

  last_stored : content_of (set t last_at v) ≡ with_last (content_of t)
  last_stored = rw (
    get_or-set_other t last_at version_at v 0 (λ e. omega arith),
    get_or-set_same t last_at v 0 (omega arith),
    get_or-set_other t last_at count_at v 0 (λ e. omega arith),
    needs-set t last_at v (omega arith),
    places-head t last_at v (omega arith),
  )

  count-stored : content_of (set t count_at v) ≡ with_count (content_of t)
  count-stored = rw (
    get_or-set_other t count_at version_at v 0 (λ e. omega arith),
    get_or-set_other t count_at last_at v 0 (λ e. omega arith),
    get_or-set_same t count_at v 0 (omega arith),
    needs-set t count_at v (omega arith),
    places-head t count_at v (omega arith),
  )

  -- the version of the object at place i
  renewal-stored : (i : ℕ) → i < most_objects
      → content_of (set t (versions_from + i) v)
      ≡ with_objects (set (places t) i (with_version v (object_at t i))) (content_of t)
  renewal-stored i h = rw (
    get_or-set_other t (versions_from + i) version_at v 0 (λ e. omega arith),
    get_or-set_other t (versions_from + i) last_at v 0 (λ e. omega arith),
    get_or-set_other t (versions_from + i) count_at v 0 (λ e. omega arith),
    needs-set t (versions_from + i) v (omega arith),
    places-version t i v l h,
  )

-- an object at place j
pub content-stored : (t : List ℕ) (j : ℕ) (o : Object) → length t ≡ table_size → j < most_objects
    → HasContent t (stored t j o) (content_with_object j o t)
content-stored t j o l h = record {
  long = stored-length t j o;
  says = rw (
    stored-head t j o version_at (omega arith),
    stored-head t j o last_at (omega arith),
    stored-head t j o count_at (omega arith),
    needs-stored t j o l h,
    places-stored t j o l h,
  );
}

-- ---- operation 4: the first i objects have been looked at, and now one more is
module _ (t u : List ℕ) (number v i : ℕ) (l : length t ≡ table_size) (more : i < length (objects_in t))
    (b : HasContent t u (content_with_front (change Object.number number (with_version v) (take i (places t))) t)) where
  abbrev renewal : Object → Object
  renewal o = cond (o.number is number) (with_version v o) o

  abbrev renewing_next : List Object
  renewing_next = change Object.number number (with_version v) (take (i + 1) (places t))

  low : i < most_objects
  low = omega (arith, objects-length t)

  turn : set (places u) i (renewal (object_at u i)) ≡ with_front renewing_next (places t)
  unfolding change
  turn =
      ap (λ (o : Object). set (places u) i (renewal o)) (sym (places_at u i low))
      ∙ front-map renewal (places t) (places u) i no_object (omega (arith, low, places-length t)) (ap Content.objects b.says)

  -- the table after that, where object i is stored again, renewed or not
  next : (w : List ℕ) → length w ≡ length u
      → content_of w ≡ with_objects (set (places u) i (renewal (object_at u i))) (content_of u)
      → HasContent t w (content_with_front renewing_next t)
  next w long e = record {
    long = long ∙ b.long;
    says = e ∙ ap (λ (os : List Object). with_objects os (content_of u)) turn
        ∙ ap (with_objects (with_front renewing_next (places t))) b.says;
  }

  pub renewed_one : get_or u (numbers_from + i) 0 ≡ number
      → HasContent t (set u (versions_from + i) v) (content_with_front renewing_next t)
  unfolding object_at
  renewed_one e =
      next (set u (versions_from + i) v) (length-set u (versions_from + i) v)
      (renewal-stored u v (b.long ∙ l) i low ∙ rw (eq-eqb (get_or u (numbers_from + i) 0) number e) refl)

  pub renewed_none : (get_or u (numbers_from + i) 0 ≡ number → ⊥) → HasContent t u (content_with_front renewing_next t)
  unfolding object_at
  renewed_none e =
      next u refl
      (ap (λ (os : List Object). with_objects os (content_of u))
      (sym (set-get_or (places u) i no_object) ∙ ap (set (places u) i) (places_at u i low))
      ∙ rw (ne_eqb (get_or u (numbers_from + i) 0) number e) refl)

-- ---- operation 6: the first i objects have been looked at, k of other numbers are kept, and now one more is looked at
module _ (t u : List ℕ) (number i k : ℕ) (more : i < length (objects_in t))
    (b : HasContent t u (content_with_front (keep (λ (a : Object). a.number isnt number) (take i (places t))) t))
    (e : k ≡ length (keep (λ (a : Object). a.number isnt number) (take i (places t)))) where
  abbrev passes : Object → Bool
  passes a = a.number isnt number

  abbrev keeping_next : List Object
  keeping_next = keep passes (take (i + 1) (places t))

  inside : (i < most_objects) × (i < length (places t))
  inside = (omega (arith, objects-length t), omega (arith, objects-length t, places-length t))

  -- o, which the code read, is object i of t
  module _ (o : Object) (q : o ≡ object_at u i) where
    is_it : get_or (places t) i no_object ≡ o
    is_it = sym (q ∙ sym (places_at u i inside.0)
        ∙ kept_at passes (places t) (places u) i k no_object inside.1 (ap Content.objects b.says) e)

    -- it is kept: it was stored at place k
    pub delete_kept : (w : List ℕ) → (o.number ≡ number → ⊥) → HasContent u w (content_with_object k o u)
        → (HasContent t w (content_with_front keeping_next t)) × (k + 1 ≡ length keeping_next)
    delete_kept w n s =
        let turn = kept_one passes (places t) (places u) i k no_object inside.1 (ap Content.objects b.says) e
        (ap passes is_it ∙ ap not (ne_eqb o.number number n)) in (
          record {
            long = s.long ∙ b.long;
            says = s.says
                ∙ ap (λ (os : List Object). with_objects os (content_of u)) (ap (set (places u) k) (sym is_it) ∙ turn.0)
                ∙ ap (with_objects (with_front keeping_next (places t))) b.says;
          },
          turn.1,
        )

    -- it goes
    pub delete-passed : o.number ≡ number
        → (HasContent t u (content_with_front keeping_next t)) × (k ≡ length keeping_next)
    delete-passed n =
        let turn = kept_none passes (places t) (places u) i k no_object inside.1 (ap Content.objects b.says) e
        (ap passes is_it ∙ ap not (eq-eqb o.number number n)) in (
          record {
            long = b.long;
            says = ap (λ (os : List Object). with_objects os (content_of u)) turn.0
                ∙ ap (with_objects (with_front keeping_next (places t))) b.says;
          },
          turn.1,
        )

-- ---- the whole of each operation
-- 4, of the partition: the last version given, then its own
pub raised-partition : (t : List ℕ) (number v : ℕ) → length t ≡ table_size → number ≡ 0
    → HasContent t (set (set t last_at v) version_at v) (raised_content number v t)
unfolding raised_content
raised-partition t number v l e = record {
  long = length-set (set t last_at v) version_at v ∙ length-set t last_at v;
  says = version-stored (set t last_at v) v (length-set t last_at v ∙ l)
      ∙ ap (with_partition_version t v l) (last_stored t v l) ∙ rw (eq-eqb number 0 e) refl;
}

-- 4, of an object: the last version given, then the objects of its number
pub raised-object : (t u : List ℕ) (number v : ℕ) → length t ≡ table_size → (number ≡ 0 → ⊥)
    → HasContent (set t last_at v) u
    (content_with_front (change Object.number number (with_version v) (objects_in (set t last_at v))) (set t last_at v))
    → HasContent t u (raised_content number v t)
unfolding raised_content
raised-object t u number v l e b = record {
  long = b.long ∙ length-set t last_at v;
  says = b.says
      ∙ ap (with_objects _) (last_stored t v l)
      ∙ rw (objects-head t last_at v (omega arith), places-head t last_at v (omega arith), ne_eqb number 0 e) refl;
}

-- 5, where there is room: the last version given, the object at the first free place, the count
pub created-room : (t u : List ℕ) (o : Object) (n : ℕ) → length t ≡ table_size → n ≡ get_or t count_at 0 → n < most_objects
    → HasContent (set t last_at o.version) u (content_with_object n o (set t last_at o.version))
    → HasContent t (set u count_at (n + 1)) (created_content o t)
unfolding created_content
created-room t u o n l e h b = record {
  long = length-set u count_at (n + 1) ∙ long;
  says = count-stored u (n + 1) (long ∙ l)
      ∙ ap (with_count t (n + 1) l) (b.says ∙ ap (with_objects _) (last_stored t o.version l))
      ∙ rw (places-head t last_at o.version (omega arith), placed, fits, ← e) refl;
}
  where
    long : length u ≡ length t
    long = b.long ∙ length-set t last_at o.version

    fits : (get_or t count_at 0 under most_objects) ≡ true
    fits = lt-ltb (get_or t count_at 0) most_objects (omega arith)

    placed : set (places t) n o ≡ with_front (objects_in t ++ (o ∷ [])) (places t)
    placed =
        ap (λ (r : List Object). set r n o) (objects-front t)
        ∙ front_store (objects_in t) (places t) n o no_object (omega (arith, objects-length t, count_is t l))
        (omega (arith, places-length t))

-- 5, where there is none
pub created_full : (t : List ℕ) (o : Object) → length t ≡ table_size → most_objects ≤ get_or t count_at 0
    → HasContent t (set t last_at o.version) (created_content o t)
unfolding created_content
created_full t o l h = record {
  long = length-set t last_at o.version;
  says = last_stored t o.version l ∙ rw (le-ltb (get_or t count_at 0) most_objects h) refl;
}

-- 6: what is kept of all, then the count
pub deleted_all : (t u : List ℕ) (number i k : ℕ) → length t ≡ table_size → i ≡ length (objects_in t)
    → HasContent t u (content_with_front (keep (λ (a : Object). a.number isnt number) (take i (places t))) t)
    → k ≡ length (keep (λ (a : Object). a.number isnt number) (take i (places t)))
    → HasContent t (set u count_at k) (deleted_content number t)
unfolding deleted_content
deleted_all t u number i k l e b n = record {
  long = length-set u count_at k ∙ b.long;
  says = count-stored u k (b.long ∙ l) ∙ ap (with_count t k l) b.says ∙ rw (n, objects_all t i e) refl;
}

-- format: three numbers, then the operation table
abbrev pub empty_head : ℕ → List ℕ → List ℕ
empty_head first t = set (set (set t version_at first) last_at first) count_at 0

pub emptied_all : (t u : List ℕ) (first : ℕ) → length t ≡ table_size
    → HasContent (empty_head first t) u (content_with_needs default_needs (empty_head first t))
    → HasContent t u (emptied_content first t)
emptied_all t u first l b = record {
  long = b.long ∙ length-set two count_at 0 ∙ long2;
  says = b.says ∙ ap needs_default head;
}
  where
    one : List ℕ
    one = set t version_at first

    two : List ℕ
    two = set one last_at first

    long1 : length one ≡ length t
    long1 = length-set t version_at first

    long2 : length two ≡ length t
    long2 = length-set one last_at first ∙ long1

    needs_default : Content → Content
    needs_default c =
        record { version = c.version; last = c.last; count = c.count; needs = default_needs; objects = c.objects }

    head : content_of (empty_head first t)
        ≡ record { version = first; last = first; count = 0; needs = (content_of t).needs; objects = (content_of t).objects }
    head =
        count-stored two 0 (long2 ∙ l)
        ∙ ap (with_count t 0 l) (last_stored one first (long1 ∙ l) ∙ ap (with_last t first l) (version-stored t first l))

-- such a table is of a partition that has nothing
pub emptied_view : (t u : List ℕ) (first : ℕ) → HasContent t u (emptied_content first t) → partition_view u ≡ empty_partition first
unfolding partition_view padded
emptied_view t u first b = rw (
  ap Content.version b.says,
  ap Content.last b.says,
  ap Content.count b.says,
  ap Content.needs b.says,
) refl
