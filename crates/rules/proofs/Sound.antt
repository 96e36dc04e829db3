-- A grant leaves sound partitions sound.
use mathlib.Core.Path.{◌∙◌, ◌≡◌, ap, refl, subst, sym}
use mathlib.Core.Logic.{◌⊎◌, inl, inr}
use mathlib.Core.Bool.{◌||◌, Bool, cond, false, true}
use mathlib.Core.List.Memᴰ
use mathlib.Core.List.{[], ◌∷◌, List, Memᴰ, map}
use Prim.Native.Nat.{◌+◌, ◌<◌, ◌≤◌, ℕ}
use native.Mathlib.Decide.{dec_lt, ℕ_discrete}
use native.Mathlib.Omega.{arith}
use lib.Dec.{leb}
use lib.ListN.{length, length-append, length-map, get_or-eq_default}
use borrow.Author.Tests.{eqb-false, le-leb, leb-true, not-true}
use Rattle.lemmas.specs.ListLaws.{
  every-and,
  every_append,
  every_imp,
  every-keep,
  every_map,
  every-member,
  every_nth,
  every_one,
  every-update,
  length-keep,
  length-update,
  nth_update,
  nth_update_other,
  pairs-append_one,
  pairs-keep,
  pairs-map,
  pairs-members,
}
use Rattle.lemmas.specs.Lists.{change, every, pairs}
use Rattle.lemmas.specs.Tests.{◌is◌, ◌isnt◌, and_l, and_r, both, or_cases}
use Rattle.rules.specs.declared.Credential.{Credential}
use Rattle.rules.specs.declared.Object.{Object}
use Rattle.rules.specs.Drive.{
  apart,
  partition_with,
  Partition,
  partition_at,
  sound_object,
  sound_partition,
  Tables,
  empty_partition,
}
use Rattle.rules.specs.declared.Operation.{Operation}
use Rattle.rules.specs.declared.Operation.TheVariants.{Create, Delete, LoadTable, Look, Raise, Read, SetKey, Write}
use Rattle.rules.specs.Frame.{Fields}
use Rattle.rules.specs.Operations.{created, deleted, next_version, perform, raised, placement_start, with_version}
use Rattle.rules.specs.Scope.{with_scope, Scope}
use Rattle.rules.proofs.Placing.{clear_of, Placed}

pub record SoundObject (q last : ℕ) (a : Object) : Type 0 where
  pub number : 1 ≤ a.number
  pub size : 1 ≤ a.size
  pub inside : a.start + a.size ≤ q
  pub version : a.version ≤ last

pub object_is : (q last : ℕ) (a : Object) → sound_object q last a ≡ true → SoundObject q last a
unfolding sound_object
object_is q last a h = record {
  number = leb-true 1 a.number (search (and_l, and_r));
  size = leb-true 1 a.size (search (and_l, and_r));
  inside = leb-true (a.start + a.size) q (search (and_l, and_r));
  version = leb-true a.version last (search (and_l, and_r));
}

object-sound : (q last : ℕ) (a : Object) → SoundObject q last a → sound_object q last a ≡ true
unfolding sound_object
object-sound q last a s = search (both, le-leb)

pub record SoundPartition (q : ℕ) (p : Partition Object) : Type 0 where
  pub count : length p.objects ≤ 16
  pub each : every (sound_object q p.last) p.objects ≡ true
  pub pair : pairs apart p.objects ≡ true

pub partition_is : (q : ℕ) (p : Partition Object) → sound_partition q p ≡ true → SoundPartition q p
unfolding sound_partition
partition_is q p h = record {
  count = leb-true (length p.objects) 16 (search (and_l, and_r));
  each = search (and_l, and_r);
  pair = search (and_l, and_r);
}

-- its objects, one by one and two by two
pub member-sound : {q : ℕ} {p : Partition Object} {a : Object} → SoundPartition q p → Memᴰ a p.objects
    → SoundObject q p.last a
member-sound {q} {p} {a} s k =
    object_is q p.last a (every-member (sound_object q p.last) p.objects a s.each k)

abbrev pub Disjoint : Object → Object → Type 0
Disjoint a b = (a.start + a.size ≤ b.start) ⊎ (b.start + b.size ≤ a.start)

apart-disjoint : (a b : Object) → apart a b ≡ true → Disjoint a b
apart-disjoint a b e = go (or_cases (leb (a.start + a.size) b.start) (leb (b.start + b.size) a.start)
    (and_r (a.number isnt b.number) (leb (a.start + a.size) b.start || leb (b.start + b.size) a.start) e))
  where
    go : (leb (a.start + a.size) b.start ≡ true) ⊎ (leb (b.start + b.size) a.start ≡ true) → Disjoint a b
    go (inl k) = inl (leb-true (a.start + a.size) b.start k)
    go (inr k) = inr (leb-true (b.start + b.size) a.start k)

pub apart_differ : (a b : Object) → apart a b ≡ true → a.number ≡ b.number → ⊥
apart_differ a b e = eqb-false a.number b.number (not-true (a.number is b.number)
    (and_l (a.number isnt b.number) (leb (a.start + a.size) b.start || leb (b.start + b.size) a.start) e))

pub members-disjoint : {q : ℕ} {p : Partition Object} {a b : Object} → SoundPartition q p → Memᴰ a p.objects
    → Memᴰ b p.objects → (a.number ≡ b.number → ⊥) → Disjoint a b
members-disjoint {q} {p} {a} {b} s i j ne = go (pairs-members apart p.objects a b s.pair i j)
  where
    swap : Disjoint b a → Disjoint a b
    swap (inl k) = inr k
    swap (inr k) = inl k

    go : (a ≡ b) ⊎ ((apart a b ≡ true) ⊎ (apart b a ≡ true)) → Disjoint a b
    go (inl e) = absurd (ne (ap Object.number e))
    go (inr (inl e)) = apart-disjoint a b e
    go (inr (inr e)) = swap (apart-disjoint b a e)

partition-sound : (q : ℕ) (p : Partition Object) → SoundPartition q p → sound_partition q p ≡ true
unfolding sound_partition
partition-sound q p s = search (both, le-leb)

pub unused_sound : (q F : ℕ) → sound_partition q (empty_partition F) ≡ true
unfolding every pairs
unused_sound q F = partition-sound q (empty_partition F) (record { count = omega arith; each = refl; pair = refl })

-- a last version that is no lower
later : (q v w : ℕ) (l : List Object) → v ≤ w → every (sound_object q v) l ≡ true → every (sound_object q w) l ≡ true
later q v w l le h = every_imp (sound_object q v) (sound_object q w) (λ a k. one a (object_is q v a k)) l h
  where
    one : (a : Object) → SoundObject q v a → sound_object q w a ≡ true
    one a s = object-sound q w a (record {
      number = s.number;
      size = s.size;
      inside = s.inside;
      version =
          omega arith;
    })

raised-sound : (q n : ℕ) (p : Partition Object) → sound_partition q p ≡ true → sound_partition q (raised n p) ≡ true
unfolding raised change
raised-sound q n p h = partition-sound q (raised n p) (go (n is 0))
  where
    s : SoundPartition q p
    s = partition_is q p h

    v : ℕ
    v = next_version p

    f : Object → Object
    f a = cond (a.number is n) (with_version v a) a

    new : (a : Object) (b : Bool) → SoundObject q p.last a → SoundObject q v (cond b (with_version v a) a)
    new a true o = record { number = o.number; size = o.size; inside = o.inside; version = omega arith }
    new a false o = record { number = o.number; size = o.size; inside = o.inside; version = omega arith }

    same : (a b : Object) (i j : Bool) → apart (cond i (with_version v a) a) (cond j (with_version v b) b) ≡ apart a b
    same a b true true = refl
    same a b true false = refl
    same a b false true = refl
    same a b false false = refl

    go : (b : Bool) → SoundPartition q (partition_with (cond b v p.version) v
        (cond b p.objects (map f p.objects)) (raised n p))
    go true = record { count = s.count; each = later q p.last v p.objects (omega arith) s.each; pair = s.pair }
    go false = record {
      count = rw length-map s.count;
      each = every_map (sound_object q v) f p.objects
          (every_imp (sound_object q p.last) (λ (a : Object). sound_object q v (f a))
          (λ a k. object-sound q v (f a) (new a (a.number is n) (object_is q p.last a k))) p.objects
          s.each);
      pair = pairs-map apart f (λ a b. same a b (a.number is n) (b.number is n)) p.objects s.pair;
    }

pub created-sound : (q number size start : ℕ) (p : Partition Object) → sound_partition q p ≡ true → 1 ≤ number → 1 ≤ size
    → every (λ (a : Object). a.number isnt number) p.objects ≡ true → length p.objects < 16
    → Placed q p.objects size start
    → sound_partition q (created number size start p) ≡ true
unfolding created
created-sound q number size start p h hn hs free room pl = partition-sound q (created number size start p) (record {
  count = rw length-append (omega arith);
  each = every_append (sound_object q v) p.objects (new ∷ [])
      (later q p.last v p.objects (omega arith) s.each)
      (every_one (sound_object q v) new
      (object-sound q v new (record {
        number = hn;
        size = hs;
        inside = pl.inside;
        version =
            omega arith;
      })));
  pair = pairs-append_one apart p.objects new s.pair
      (every-and (λ (a : Object). a.number isnt number) (clear_of start size) p.objects free pl.clear);
})
  where
    s : SoundPartition q p
    s = partition_is q p h

    v : ℕ
    v = next_version p

    new : Object
    new = record { number = number; version = v; size = size; start = start }

deleted-sound : (q n : ℕ) (p : Partition Object) → sound_partition q p ≡ true → sound_partition q (deleted n p) ≡ true
unfolding deleted
deleted-sound q n p h = partition-sound q (deleted n p) (record {
  count = omega (arith, length-keep other p.objects, s.count);
  each = every-keep (sound_object q p.last) other p.objects s.each;
  pair = pairs-keep apart other p.objects s.pair;
})
  where
    s : SoundPartition q p
    s = partition_is q p h

    other : Object → Bool
    other a = a.number isnt n

-- what a create that no row refuses has
pub record CanCreate (s : Scope Object) (number size : ℕ) : Type 0 where
  pub number_one : 1 ≤ number
  pub size_one : 1 ≤ size
  pub free : every (λ (a : Object). a.number isnt number) s.partition.objects ≡ true
  pub room : length s.partition.objects < 16
  pub place : Placed s.quarter s.partition.objects size (placement_start s size)

abbrev pub SoundScope : Scope Object → Type 0
SoundScope s = sound_partition s.quarter s.partition ≡ true

pub scope-sound : (o : Operation) (s : Scope Object) (x : Fields) (m : List ℕ) → SoundScope s
    → ((number size : ℕ) → o ≡ Create number size → CanCreate s number size)
    → sound_partition s.quarter (perform o s x m).scope.partition ≡ true
unfolding perform sound_partition
scope-sound (Read a b) s x m h c = h
scope-sound (Write a b) s x m h c = h
scope-sound Look s x m h c = h
scope-sound Raise s x m h c = raised-sound s.quarter x.cred.object s.partition h
scope-sound (Create a b) s x m h c =
    let k = c a b refl in
    created-sound s.quarter a b (placement_start s b) s.partition h
    k.number_one k.size_one k.free k.room k.place
scope-sound Delete s x m h c = deleted-sound s.quarter x.cred.object s.partition h
scope-sound (SetKey a) s x m h c = h
scope-sound LoadTable s x m h c = h

-- ---- all partitions
abbrev pub SoundTables : ℕ → Tables Object → Type 0
SoundTables q t = every (sound_partition q) t.partitions ≡ true

pub at_sound : (q : ℕ) (t : Tables Object) (p : ℕ) → SoundTables q t → sound_partition q (partition_at t p) ≡ true
at_sound q t p h = every_nth (sound_partition q) t.partitions p (empty_partition 0) (unused_sound q 0) h

pub back_sound : (q : ℕ) (x : Fields) (s : Scope Object) (t : Tables Object) → sound_partition q s.partition ≡ true
    → SoundTables q t → SoundTables q (with_scope x.cred s t)
back_sound q x s t k h =
    every-update (sound_partition q) x.cred.partition (λ (old : Partition Object). s.partition) t.partitions
    (empty_partition 0) k h

-- ---- the list of partitions: only four have objects; one of them is put back
pub below_four : {A : Type 0} (t : Tables A) (p : ℕ) (a : A) → length t.partitions ≡ 4
    → Memᴰ a (partition_at t p).objects → p < 4
below_four {A} t p a e k = go (dec_lt p 4)
  where
    go : Dec (p < 4) → p < 4
    go (yes h) = h
    go (no h) = absurd (Memᴰ.not-nil (subst (λ (r : Partition A). Memᴰ a r.objects)
        (get_or-eq_default t.partitions (empty_partition 0) {n = p} (omega (arith, e))) k))

pub with_scope_here : {A : Type 0} (c : Credential) (s : Scope A) (t : Tables A) → c.partition < length t.partitions
    → partition_at (with_scope c s t) c.partition ≡ s.partition
with_scope_here {A} c s t h =
    nth_update c.partition (λ (old : Partition A). s.partition) t.partitions (empty_partition 0) h

pub with_scope_there : {A : Type 0} (c : Credential) (s : Scope A) (t : Tables A) (r : ℕ) → (r ≡ c.partition → ⊥)
    → partition_at (with_scope c s t) r ≡ partition_at t r
with_scope_there {A} c s t r e =
    nth_update_other c.partition r (λ (old : Partition A). s.partition) t.partitions (empty_partition 0) e

-- a partition, where one was put back: the new one, or as it was before
pub with_scope_either : {A : Type 0} (c : Credential) (s : Scope A) (t : Tables A) (r : ℕ)
    → ((r ≡ c.partition) × (partition_at (with_scope c s t) r ≡ s.partition))
    ⊎ (partition_at (with_scope c s t) r ≡ partition_at t r)
with_scope_either {A} c s t r = go (ℕ_discrete r c.partition) (dec_lt r (length t.partitions))
  where
    go : Dec (r ≡ c.partition) → Dec (r < length t.partitions)
        → ((r ≡ c.partition) × (partition_at (with_scope c s t) r ≡ s.partition))
        ⊎ (partition_at (with_scope c s t) r ≡ partition_at t r)
    go (no e) f = inr (with_scope_there c s t r e)
    go (yes e) (yes f) = inl (
      e,
      ap (partition_at (with_scope c s t)) e ∙ with_scope_here c s t (subst (λ (n : ℕ). n < length t.partitions) e f),
    )
    go (yes e) (no f) = inr (
        get_or-eq_default (with_scope c s t).partitions (empty_partition 0) {n = r}
        (omega (arith, length-update c.partition (λ (old : Partition A). s.partition) t.partitions))
        ∙ sym (get_or-eq_default t.partitions (empty_partition 0) {n = r} (omega arith)))

-- so are its objects
pub with_scope_has : {A : Type 0} (c : Credential) (s : Scope A) (t : Tables A) (r : ℕ) (a : A)
    → Memᴰ a (partition_at (with_scope c s t) r).objects
    → ((r ≡ c.partition) × Memᴰ a s.partition.objects) ⊎ Memᴰ a (partition_at t r).objects
with_scope_has {A} c s t r a k = go (with_scope_either c s t r)
  where
    go : ((r ≡ c.partition) × (partition_at (with_scope c s t) r ≡ s.partition))
        ⊎ (partition_at (with_scope c s t) r ≡ partition_at t r)
        → ((r ≡ c.partition) × Memᴰ a s.partition.objects) ⊎ Memᴰ a (partition_at t r).objects
    go (inl e) = inl (e.0, subst (λ (p : Partition A). Memᴰ a p.objects) e.1 k)
    go (inr e) = inr (subst (λ (p : Partition A). Memᴰ a p.objects) e k)
