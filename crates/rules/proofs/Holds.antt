-- The ledger's tables are sound, and each object's extent of the medium has the object's bytes (`Consistent`). A grant
-- keeps it so (`consistent_after`).
-- M: the size of the medium. m: the medium. l: a ledger. p, r: numbers of partitions. h, k: objects of the ledger.
use mathlib.Core.Path.{◌∙◌, ◌≡◌, ap, refl, subst, sym}
use mathlib.Core.Logic.{◌⊎◌, inl, inr}
use mathlib.Core.Bool.{Bool, cond, false, true}
use mathlib.Core.List.Memᴰ
use mathlib.Core.List.{[], ◌∷◌, List, Memᴰ}
use Prim.Native.Nat.{◌*◌, ◌+◌, ◌<◌, ◌≤◌, ℕ}
use native.Mathlib.Decide.{dec_lt, ℕ_discrete}
use native.Mathlib.Nat.{add_assoc, mul-le-mul_right}
use native.Mathlib.Omega.{arith}
use lib.Dec.{leb}
use lib.ListN.{length, length-replicate, replicate}
use borrow.Author.Tests.{leb-true}
use Rattle.lemmas.specs.ListLaws.{every-member, length-update, member-change, member-keep, pairs-members, pairs_unmap}
use Rattle.lemmas.specs.Lists.{change, missing, part, splice}
use Rattle.lemmas.specs.Parts.{length-splice, part_apart, part-inside, part-new}
use Rattle.lemmas.specs.Tests.{◌is◌, ◌isnt◌, or_cases}
use Rattle.rules.specs.declared.Entry.{Entry}
use Rattle.rules.specs.declared.Object.{Object}
use Rattle.rules.specs.Drive.{apart, Keys, Partition, partition_at, quarter, sound_partition}
use Rattle.rules.specs.declared.Operation.{Operation}
use Rattle.rules.specs.declared.Operation.TheVariants.{Create, Delete, LoadTable, Look, Raise, Read, SetKey, Write}
use Rattle.rules.specs.Frame.{Fields, target_of}
use Rattle.rules.specs.Ledger.{bare, bare_scope, ledger_deleted, LedgerObject, ledger_with_version, ledger_created, Ledger, ledger_perform, ledger_scope, number_of, ledger_raised, tables_of, ledger_written, with_bytes_written}
use Rattle.rules.specs.Operations.{extent_start, key_set, named_object, next_version, object_of, perform, placement, placement_start}
use Rattle.rules.specs.Scope.{with_scope, Scope, with_keys}
use Rattle.rules.proofs.Bare.{bare_after, bare_at, bare_back, sees, the_ledger_object, the_object}
use Rattle.rules.proofs.Placing.{clear_of}
use Rattle.rules.proofs.Sound.{
  apart_differ,
  at_sound,
  back_sound,
  below_four,
  CanCreate,
  Disjoint,
  member-sound,
  members-disjoint,
  partition_is,
  scope-sound,
  SoundObject,
  SoundPartition,
  SoundScope,
  SoundTables,
  with_scope_here,
  with_scope_there,
}

-- ---- what is known of a grant
pub record CanWrite (s : Scope Object) (x : Fields) (offset size : ℕ) : Type 0 where
  pub there : missing (named_object s (target_of x.cred x.req)) ≡ false
  pub fits : offset + size ≤ (object_of s (target_of x.cred x.req)).size
  pub len : length x.payload ≡ size

pub record Grant (o : Operation) (s : Scope Object) (x : Fields) : Type 0 where
  pub partition : x.cred.partition < 4
  pub writes : (offset size : ℕ) → o ≡ Write offset size → CanWrite s x offset size
  pub creates : (number size : ℕ) → o ≡ Create number size → CanCreate s number size

-- ---- what is known of ledger and medium
-- the extent of an object of partition p has the object's bytes
abbrev pub Held : ℕ → List ℕ → ℕ → LedgerObject → Type 0
Held M m p h = part m (p * quarter M + h.object.start) h.object.size ≡ h.bytes

pub record Consistent (M : ℕ) (m : List ℕ) (l : Ledger) : Type 0 where
  pub size : length m ≡ M
  pub four : length l.partitions ≡ 4
  pub sound : SoundTables (quarter M) (tables_of l)
  pub bytes : (p : ℕ) (h : LedgerObject) → Memᴰ h (partition_at l p).objects → Held M m p h

-- ---- the quarters
pub quarter_in : (M p : ℕ) → p < 4 → p * quarter M + quarter M ≤ M
quarter_in M p h = omega (arith, mul-le-mul_right (quarter M) h)

pub quarter_below : (q p r : ℕ) → p < r → p * q + q ≤ r * q
quarter_below q p r h = omega (arith, mul-le-mul_right q h)

module _ {M : ℕ} {m : List ℕ} {l : Ledger} (g : Consistent M m l) where
  abbrev In : ℕ → LedgerObject → Type 0
  In p h = Memᴰ h (partition_at l p).objects

  sound_at_lem : (p : ℕ) → SoundPartition (quarter M) (bare (partition_at l p))
  sound_at_lem p = subst (SoundPartition (quarter M)) (bare_at l p)
      (partition_is (quarter M) (partition_at (tables_of l) p) (at_sound (quarter M) (tables_of l) p g.sound))

  sound_in : (p : ℕ) (h : LedgerObject) → In p h → SoundObject (quarter M) (partition_at l p).last h.object
  sound_in p h k = member-sound (sound_at_lem p) (Memᴰ.map LedgerObject.object k)

  -- an object's extent lies within the medium
  pub inside : (p : ℕ) (h : LedgerObject) → In p h → p * quarter M + h.object.start + h.object.size ≤ length m
  inside p h k = omega (arith, quarter_in M p (below_four l p h g.four k), (sound_in p h k).inside, g.size)

  -- two objects of one number are one
  unique : (p : ℕ) (h k : LedgerObject) → In p h → In p k → number_of h ≡ number_of k → h ≡ k
  unique p h k i j e = go (pairs-members (λ (a b : LedgerObject). apart a.object b.object) (partition_at l p).objects
      h k (pairs_unmap apart LedgerObject.object (partition_at l p).objects (sound_at_lem p).pair) i j)
    where
      go : (h ≡ k) ⊎ ((apart h.object k.object ≡ true) ⊎ (apart k.object h.object ≡ true)) → h ≡ k
      go (inl f) = f
      go (inr (inl f)) = absurd (apart_differ h.object k.object f e)
      go (inr (inr f)) = absurd (apart_differ k.object h.object f (sym e))

  -- bytes written away from an object leave its bytes alone
  untouched : (r at : ℕ) (new : List ℕ) (h : LedgerObject) → In r h → at + length new ≤ length m
      → (at + length new ≤ r * quarter M + h.object.start)
      ⊎ (r * quarter M + h.object.start + h.object.size ≤ at)
      → Held M (splice m at new) r h
  untouched r at new h k room away =
      part_apart m new at (r * quarter M + h.object.start) h.object.size room (inside r h k) away ∙ g.bytes r h k

  -- bytes written in one partition leave the objects of the others alone
  elsewhere : (p a : ℕ) (new : List ℕ) → p < 4 → a + length new ≤ quarter M
      → (r : ℕ) (h : LedgerObject) → (r ≡ p → ⊥) → In r h → Held M (splice m (p * quarter M + a) new) r h
  elsewhere p a new hp ha r h ne k =
      untouched r (p * quarter M + a) new h k (omega (arith, quarter_in M p hp, g.size)) (go (dec_lt p r))
    where
      go : Dec (p < r) → (p * quarter M + a + length new ≤ r * quarter M + h.object.start)
          ⊎ (r * quarter M + h.object.start + h.object.size ≤ p * quarter M + a)
      go (yes e) = inl (omega (arith, quarter_below (quarter M) p r e))
      go (no e) =
          let e' : r < p = omega arith in
          inr (omega (arith, quarter_below (quarter M) r p e', (sound_in r h k).inside))

  -- the bytes after one partition has changed: there, and elsewhere
  bytes_at_lem : (x : Fields) (s : Scope LedgerObject) (m' : List ℕ) → x.cred.partition < 4
      → ((h : LedgerObject) → Memᴰ h s.partition.objects → Held M m' x.cred.partition h)
      → ((r : ℕ) (h : LedgerObject) → (r ≡ x.cred.partition → ⊥) → In r h → Held M m' r h)
      → (r : ℕ) (h : LedgerObject) → Memᴰ h (partition_at (with_scope x.cred s l) r).objects → Held M m' r h
  bytes_at_lem x s m' hp here there r h k = go (ℕ_discrete r p)
    where
      p : ℕ
      p = x.cred.partition

      go : Dec (r ≡ p) → Held M m' r h
      go (yes e) =
          rw e (here h (subst (λ (s : Partition LedgerObject). Memᴰ h s.objects)
          (with_scope_here x.cred s l (omega (arith, hp, g.four)))
          (subst (λ (n : ℕ). Memᴰ h (partition_at (with_scope x.cred s l) n).objects) e k)))
      go (no e) = there r h e (subst (λ (s : Partition LedgerObject). Memᴰ h s.objects)
          (with_scope_there x.cred s l r e) k)

  still : (p : ℕ) (r : ℕ) (h : LedgerObject) → (r ≡ p → ⊥) → In r h → Held M m r h
  still p r h e k = g.bytes r h k

  -- the ledger after a grant, and what its frame sees of it before, beside any memory
  abbrev after : Operation → Fields → Ledger
  after o x = with_scope x.cred (ledger_perform o (ledger_scope M l x.cred) x) l

  -- and the bytes of all its objects, by the medium after the grant
  abbrev BytesAfter : Operation → Fields → List ℕ → Type 0
  BytesAfter o x m' = (r : ℕ) (h : LedgerObject) → Memᴰ h (partition_at (after o x) r).objects → Held M m' r h

  -- ---- 2. Write
  written-bytes : (x : Fields) (offset size : ℕ) (k : LedgerObject) → x.cred.partition < 4
      → In x.cred.partition k → number_of k ≡ target_of x.cred x.req → offset + length x.payload ≤ k.object.size
      → BytesAfter (Write offset size) x
      (splice m (x.cred.partition * quarter M + k.object.start + offset) x.payload)
  unfolding ledger_perform ledger_written with_bytes_written
  written-bytes x offset size k hp i e fit =
      bytes_at_lem x (ledger_perform (Write offset size) (ledger_scope M l x.cred) x) m' hp (λ h j. here h
      (member-change number_of (target_of x.cred x.req) (with_bytes_written offset x.payload) (partition_at l p).objects h j))
      (λ r h ne j. subst (λ (n : ℕ). Held M (splice m n x.payload) r h)
      (sym (add_assoc (p * quarter M) k.object.start offset))
      (elsewhere p (k.object.start + offset) x.payload hp (omega (arith, (sound_in p k i).inside)) r h ne j))
    where
      p : ℕ
      p = x.cred.partition

      at : ℕ
      at = p * quarter M + k.object.start + offset

      m' : List ℕ
      m' = splice m at x.payload

      away : (h : LedgerObject) → In p h → Disjoint k.object h.object → Held M m' p h
      away h j (inl a) = untouched p at x.payload h j (omega (arith, inside p k i)) (inl (omega arith))
      away h j (inr a) = untouched p at x.payload h j (omega (arith, inside p k i)) (inr (omega arith))

      it : part m' (p * quarter M + k.object.start) k.object.size ≡ splice k.bytes offset x.payload
      it =
          part-inside m x.payload (p * quarter M + k.object.start) offset k.object.size fit (inside p k i)
          ∙ ap (λ (b : List ℕ). splice b offset x.payload) (g.bytes p k i)

      here : (h : LedgerObject)
          → (In p h × (number_of h ≡ target_of x.cred x.req → ⊥))
          ⊎ ((b : LedgerObject) × In p b × (number_of b ≡ target_of x.cred x.req) × (h ≡ with_bytes_written offset x.payload b))
          → Held M m' p h
      here h (inl r) = away h r.0 (members-disjoint (sound_at_lem p) (Memᴰ.map LedgerObject.object i)
          (Memᴰ.map LedgerObject.object r.0) (λ f. r.1 (sym f ∙ e)))
      here h (inr r) =
          subst (Held M m' p)
          (sym (r.3 ∙ ap (with_bytes_written offset x.payload) (unique p r.0 k r.1 i (r.2 ∙ sym e)))) it

  write_bytes : (es : List Entry) (x : Fields) (offset size : ℕ) → x.cred.partition < 4
      → CanWrite (sees M l es x.cred) x offset size
      → BytesAfter (Write offset size) x
      (splice m (extent_start (sees M l es x.cred) x.cred (target_of x.cred x.req) + offset) x.payload)
  unfolding extent_start object_of named_object
  write_bytes es x offset size hp c =
      let p : Partition LedgerObject = partition_at l x.cred.partition in
      let n : ℕ = target_of x.cred x.req in
      rw (the_object p n c.there)
      (written-bytes x offset size (the_ledger_object p n c.there).0 hp (the_ledger_object p n c.there).2 (the_ledger_object p n c.there).3
      (omega (arith, c.len, c.fits, ap Object.size (the_object p n c.there))))

  -- ---- 4. Raise
  raise-bytes : (x : Fields) → x.cred.partition < 4 → BytesAfter Raise x m
  unfolding ledger_perform ledger_raised
  raise-bytes x hp =
      bytes_at_lem x (ledger_perform Raise (ledger_scope M l x.cred) x) m hp (λ h j. here h (x.cred.object is 0) j) (still p)
    where
      p : ℕ
      p = x.cred.partition

      v : ℕ
      v = next_version (partition_at l p)

      each : (h : LedgerObject)
          → (In p h × (number_of h ≡ x.cred.object → ⊥))
          ⊎ ((b : LedgerObject) × In p b × (number_of b ≡ x.cred.object) × (h ≡ ledger_with_version v b))
          → Held M m p h
      each h (inl r) = g.bytes p h r.0
      each h (inr r) = subst (Held M m p) (sym r.3) (g.bytes p r.0 r.1)

      here : (h : LedgerObject) (b : Bool)
          → Memᴰ h (cond b (partition_at l p).objects
          (change number_of x.cred.object (ledger_with_version v) (partition_at l p).objects))
          → Held M m p h
      here h true j = g.bytes p h j
      here h false j = each h (member-change number_of x.cred.object (ledger_with_version v)
          (partition_at l p).objects h j)

  -- ---- 5. Create
  create-bytes : (es : List Entry) (x : Fields) (number size : ℕ) → x.cred.partition < 4
      → CanCreate (sees M l es x.cred) number size
      → BytesAfter (Create number size) x
      (splice m (x.cred.partition * quarter M + placement_start (sees M l es x.cred) size) (replicate size 0))
  unfolding ledger_perform ledger_created placement_start placement
  create-bytes es x number size hp c =
      bytes_at_lem x (ledger_perform (Create number size) (ledger_scope M l x.cred) x) m' hp
      (λ h j. here h (Memᴰ.append_cases (partition_at l p).objects j))
      (elsewhere p s zeros hp (rw len c.place.inside))
    where
      p : ℕ
      p = x.cred.partition

      s : ℕ
      s = placement_start (sees M l es x.cred) size

      zeros : List ℕ
      zeros = replicate size 0

      len : length zeros ≡ size
      len = length-replicate size 0

      m' : List ℕ
      m' = splice m (p * quarter M + s) zeros

      new : LedgerObject
      new = record {
        object = record {
          number = number;
          version = next_version (partition_at l p);
          size = size;
          start = s;
        };
        bytes = zeros;
      }

      room : p * quarter M + s + length zeros ≤ length m
      room = omega (arith, len, quarter_in M p hp, g.size, c.place.inside)

      clear : (h : LedgerObject) → In p h → clear_of s size h.object ≡ true
      clear h j = every-member (clear_of s size) (bare (partition_at l p)).objects h.object c.place.clear
          (Memᴰ.map LedgerObject.object j)

      away : (h : LedgerObject) → In p h
          → (leb (h.object.start + h.object.size) s ≡ true) ⊎ (leb (s + size) h.object.start ≡ true)
          → Held M m' p h
      away h j (inl a) = untouched p (p * quarter M + s) zeros h j room
          (inr (omega (arith, leb-true (h.object.start + h.object.size) s a)))
      away h j (inr a) = untouched p (p * quarter M + s) zeros h j room
          (inl (omega (arith, len, leb-true (s + size) h.object.start a)))

      it : part m' (p * quarter M + s) size ≡ zeros
      it = subst (λ (n : ℕ). part m' (p * quarter M + s) n ≡ zeros) len (part-new m zeros (p * quarter M + s) room)

      here : (h : LedgerObject) → In p h ⊎ Memᴰ h (new ∷ []) → Held M m' p h
      here h (inl j) = away h j (or_cases (leb (h.object.start + h.object.size) s)
          (leb (s + size) h.object.start) (clear h j))
      here h (inr j) = subst (Held M m' p) (sym (Memᴰ.eq_of_singleton j)) it

  -- ---- 6. Delete
  delete-bytes : (x : Fields) → x.cred.partition < 4 → BytesAfter Delete x m
  unfolding ledger_perform ledger_deleted
  delete-bytes x hp =
      bytes_at_lem x (ledger_perform Delete (ledger_scope M l x.cred) x) m hp
      (λ h j. g.bytes x.cred.partition h (member-keep (λ (a : LedgerObject). number_of a isnt x.cred.object)
      (partition_at l x.cred.partition).objects h j)) (still x.cred.partition)

  -- ---- nothing changes there
  same_bytes : (x : Fields) → x.cred.partition < 4 → (keys : Keys)
      → (r : ℕ) (h : LedgerObject)
      → Memᴰ h (partition_at (with_scope x.cred (with_keys keys (ledger_scope M l x.cred)) l) r).objects
      → Held M m r h
  same_bytes x hp keys =
      bytes_at_lem x (with_keys keys (ledger_scope M l x.cred)) m hp (g.bytes x.cred.partition) (still x.cred.partition)

  -- ---- all
  bytes_after : (o : Operation) (es : List Entry) (x : Fields) → Grant o (sees M l es x.cred) x
      → BytesAfter o x (perform o (sees M l es x.cred) x m).medium
  unfolding perform ledger_perform
  bytes_after (Read a b) es x c = same_bytes x c.partition l.keys
  bytes_after (Write a b) es x c = write_bytes es x a b c.partition (c.writes a b refl)
  bytes_after Look es x c = same_bytes x c.partition l.keys
  bytes_after Raise es x c = raise-bytes x c.partition
  bytes_after (Create a b) es x c = create-bytes es x a b c.partition (c.creates a b refl)
  bytes_after Delete es x c = delete-bytes x c.partition
  bytes_after (SetKey a) es x c = same_bytes x c.partition (key_set a x l.keys)
  bytes_after LoadTable es x c =
      bytes_at_lem x (ledger_perform LoadTable (ledger_scope M l x.cred) x) m c.partition (g.bytes x.cred.partition)
      (still x.cred.partition)

  size_after : (o : Operation) (es : List Entry) (x : Fields) → Grant o (sees M l es x.cred) x
      → length (perform o (sees M l es x.cred) x m).medium ≡ M
  unfolding perform extent_start object_of named_object
  size_after (Read a b) es x c = g.size
  size_after (Write a b) es x c =
      let w : CanWrite (sees M l es x.cred) x a b = c.writes a b refl in
      let p : Partition LedgerObject = partition_at l x.cred.partition in
      let n : ℕ = target_of x.cred x.req in
      length-splice m x.payload (extent_start (sees M l es x.cred) x.cred n + a)
      (omega (
        arith,
        w.len,
        w.fits,
        ap Object.size (the_object p n w.there),
        ap Object.start (the_object p n w.there),
        inside x.cred.partition (the_ledger_object p n w.there).0 (the_ledger_object p n w.there).2,
      ))
      ∙ g.size
  size_after Look es x c = g.size
  size_after Raise es x c = g.size
  size_after (Create a b) es x c =
      length-splice m (replicate b 0) (x.cred.partition * quarter M + placement_start (sees M l es x.cred) b)
      (omega (
        arith,
        length-replicate {A = ℕ} b 0,
        quarter_in M x.cred.partition c.partition,
        g.size,
        (c.creates a b refl).place.inside,
      ))
      ∙ g.size
  size_after Delete es x c = g.size
  size_after (SetKey a) es x c = g.size
  size_after LoadTable es x c = g.size

  sound_after : (o : Operation) (es : List Entry) (x : Fields) → Grant o (sees M l es x.cred) x
      → SoundTables (quarter M) (tables_of (after o x))
  sound_after o es x c =
      let s : Scope Object = sees M l es x.cred in
      let h : SoundScope s = subst (λ (p : Partition Object). sound_partition (quarter M) p ≡ true)
      (bare_at l x.cred.partition) (at_sound (quarter M) (tables_of l) x.cred.partition g.sound) in
      rw bare_back (back_sound (quarter M) x (bare_scope (ledger_perform o (ledger_scope M l x.cred) x)) (tables_of l)
      (subst (λ (s : Scope Object). sound_partition (quarter M) s.partition ≡ true)
      (bare_after o (ledger_scope M l x.cred) es x m) (scope-sound o s x m h c.creates)) g.sound)

  pub consistent_after : (o : Operation) (es : List Entry) (x : Fields) → Grant o (sees M l es x.cred) x
      → Consistent M (perform o (sees M l es x.cred) x m).medium (after o x)
  consistent_after o es x c = record {
    size = size_after o es x c;
    four = length-update x.cred.partition
        (λ (old : Partition LedgerObject). (ledger_perform o (ledger_scope M l x.cred) x).partition) l.partitions ∙ g.four;
    sound = sound_after o es x c;
    bytes = bytes_after o es x c;
  }
