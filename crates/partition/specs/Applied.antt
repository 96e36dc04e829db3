-- The law that ties the two: the table after a granted operation is the rules' partition after it.
-- t: the table; u: the table afterwards. s: the scope. x: the frame's fields. m: the medium.
use Rattle.std.specs.Prelude.{◌≡◌, Bool, true, false, length, take}
use Rattle.std.proofs.Math.Path.{refl, ap}
use Rattle.std.proofs.Common.{sym, ◌∙◌, arith, take_at}
use Rattle.std.proofs.Math.Bool.{cond}
use mathlib.Core.List.{List, [], ◌∷◌, ◌++◌}
use Prim.Native.Nat.{ℕ, ◌+◌, ◌≤◌, ◌<◌}
use Rattle.std.proofs.Math.ListN.{get_or, length-append}
use borrow.Author.Tests.{lt-ltb}
use Rattle.lemmas.specs.Tests.{◌is◌, ◌isnt◌}
use Rattle.lemmas.specs.Lists.{change}
use Rattle.lemmas.specs.ListLaws.{length-keep, length-change}
use Rattle.lemmas.specs.Fronts.{with_front}
use Rattle.rules.specs.declared.Need.{Need}
use Rattle.rules.specs.declared.Object.{Object}
use Rattle.rules.specs.declared.Operation.{Operation}
use Rattle.rules.specs.declared.Operation.TheVariants.{Read, Write, Look, Raise, Create, Delete, SetKey, LoadTable}
use Rattle.rules.specs.Frame.{Fields}
use Rattle.rules.specs.Drive as rules
use Rattle.rules.specs.Drive.{most_objects}
use Rattle.rules.specs.Needs.{needs_at}
use Rattle.rules.specs.Scope.{Scope}
use Rattle.rules.specs.Operations.{with_version, next_version, placement_start, raised, created, deleted, with_needs, perform}
use Rattle.state.specs.Table.{count_at, last_at, version_at, table_size, places, objects_in, needs_in, partition_in}
use Rattle.state.specs.Places.{objects-length, count_is}
use Rattle.state.specs.Changes.{
  Content,
  content_of,
  HasContent,
  raised_content,
  created_content,
  other_objects,
  deleted_content,
  content_with_needs,
}
use Rattle.partition.specs.Partition.{content_after}

-- what a grant knows of the version v and the start that it gives an operation: v is the next version where a version is
-- given, and a new object has room and gets the start that the rules give it
pub record ChangeFits (o : Operation) (s : Scope Object) (v start : ℕ) : Type 0 where
  pub raised : o ≡ Raise → v ≡ next_version s.partition
  pub created : (number size : ℕ) → o ≡ Create number size → v ≡ next_version s.partition
  pub placed : (number size : ℕ) → o ≡ Create number size → start ≡ placement_start s size
  pub room : (number size : ℕ) → o ≡ Create number size → length s.partition.objects < most_objects

-- what a content is of a partition: as many objects as it counts
abbrev in_content : Content → rules.Partition Object
in_content c =
    record { version = c.version; last = c.last; needs = c.needs; objects = take c.count c.objects }

content-partition : (t : List ℕ) → length t ≡ table_size → partition_in t ≡ in_content (content_of t)
unfolding partition_in objects_in
content-partition t l = rw (count_is t l) refl

-- objects at the front, counted
front-held : (f : List Object) (t : List ℕ) (k : ℕ) → length f ≡ k → take k (with_front f (places t)) ≡ f
front-held f t k e = take_at f _ k e

-- the content c is of the partition p, and counts no more objects than there are places
abbrev Tells : Content → rules.Partition Object → Type 0
Tells c p = (in_content c ≡ p) × (c.count ≤ most_objects)

-- a table t whose count is within its places
module _ (t : List ℕ) (l : length t ≡ table_size) (fit : get_or t count_at 0 ≤ most_objects) where
  all_held : take (get_or t count_at 0) (places t) ≡ objects_in t
  unfolding objects_in
  all_held = rw (count_is t l) refl

  count_held : length (objects_in t) ≡ get_or t count_at 0
  count_held = omega (arith, objects-length t, count_is t l)

  same_in : Tells (content_of t) (partition_in t)
  same_in = (sym (content-partition t l), fit)

  raised_in : (n : ℕ) → Tells (raised_content n (next_version (partition_in t)) t) (raised n (partition_in t))
  unfolding raised_content raised partition_in
  raised_in n = (
    ap (λ (os : List Object). record {
      version = cond (n is 0) v (get_or t version_at 0);
      last = v;
      needs = needs_in t;
      objects = os;
    }) (go (n is 0)),
    fit,
  )
    where
      v : ℕ
      v = get_or t last_at 0 + 1

      go : (b : Bool)
          → take (get_or t count_at 0) (cond b (places t) (with_front (change Object.number n (with_version v) (objects_in t)) (places t)))
          ≡ cond b (objects_in t) (change Object.number n (with_version v) (objects_in t))
      go true = all_held
      go false =
          front-held (change Object.number n (with_version v) (objects_in t)) t (get_or t count_at 0)
          (length-change Object.number n (with_version v) (objects_in t) ∙ count_held)

  created_in : (number size start : ℕ) → length (partition_in t).objects < most_objects → let v = next_version (partition_in t) in
      Tells (created_content (record { number = number; version = v; size = size; start = start }) t)
      (created number size start (partition_in t))
  unfolding created_content created partition_in
  created_in number size start h =
      let o : Object = record { number = number; version = get_or t last_at 0 + 1; size = size; start = start } in
      let n = count_held in
      let m = length-append (objects_in t) (o ∷ []) in
      let e = lt-ltb (get_or t count_at 0) most_objects (omega arith) in
      let f = front-held (objects_in t ++ (o ∷ [])) t (get_or t count_at 0 + 1) (omega arith) in
      (rw (e, f) refl, rw e (omega arith))

  deleted_in : (n : ℕ) → Tells (deleted_content n t) (deleted n (partition_in t))
  unfolding deleted_content deleted partition_in
  deleted_in n = (
    rw (front-held (other_objects n t) t (length (other_objects n t)) refl) refl,
    omega (arith, length-keep (λ (a : Object). a.number isnt n) (objects_in t), count_held),
  )

  loaded_in : (needs : List Need) → Tells (content_with_needs needs t) (with_needs needs (partition_in t))
  unfolding partition_in
  loaded_in needs = (rw all_held refl, fit)

  -- operation by operation
  content_in : (o : Operation) (s : Scope Object) (x : Fields) (m : List ℕ) (v start : ℕ)
      → s.partition ≡ partition_in t → ChangeFits o s v start
      → Tells (content_after o x.cred.object v start (needs_at x.payload) t) (perform o s x m).scope.partition
  unfolding perform
  content_in (Read a b) s x m v start p w = rw p same_in
  content_in (Write a b) s x m v start p w = rw p same_in
  content_in Look s x m v start p w = rw p same_in
  content_in Raise s x m v start p w = rw (w.raised refl, p) (raised_in x.cred.object)
  content_in (Create number size) s x m v start p w =
      let h = w.room number size refl in
      rw (w.created number size refl, w.placed number size refl, p)
      (created_in number size _ (rw p at h))
  content_in Delete s x m v start p w = rw p (deleted_in x.cred.object)
  content_in (SetKey target) s x m v start p w = rw p same_in
  content_in LoadTable s x m v start p w = rw p (loaded_in (needs_at x.payload))

-- the table of a scope's partition, after a granted operation
pub applied_is : (t u : List ℕ) (o : Operation) (s : Scope Object) (x : Fields) (m : List ℕ) (v start : ℕ)
    → length t ≡ table_size → get_or t count_at 0 ≤ most_objects → s.partition ≡ partition_in t → ChangeFits o s v start
    → HasContent t u (content_after o x.cred.object v start (needs_at x.payload) t)
    → (partition_in u ≡ (perform o s x m).scope.partition) × (get_or u count_at 0 ≤ most_objects) × (length u ≡ table_size)
applied_is t u o s x m v start l fit p w b =
    let c = content_in t l fit o s x m v start p w in (
      content-partition u (b.long ∙ l) ∙ ap in_content b.says ∙ c.0,
      omega (arith, ap Content.count b.says, c.1),
      b.long ∙ l,
    )
