-- What a grant does to one partition of the ledger: to the last version given, to an object's version, to its bytes.
-- p: a partition. n: an object's number. x: the frame's fields. o: its operation.
use mathlib.Core.Path.{◌∙◌, ◌≡◌, ap, refl, subst, subst₂, sym}
use mathlib.Core.Logic.{◌⊎◌, inl, inr}
use mathlib.Core.Bool.{Bool, cond, false, true, true≢false}
use mathlib.Core.Option.{map-map, none, Option, get_or, map, some-injective, some-ne-none, some}
use mathlib.Core.List.{[], List}
use Prim.Native.Nat.{◌+◌, ◌≤◌, ℕ}
use native.Mathlib.Decide.{ℕ_discrete}
use native.Mathlib.Omega.{arith}
use lib.ListN.{replicate}
use borrow.Author.Tests.{eqb-true, ne_eqb}
use Rattle.lemmas.specs.Lists.{change, find, missing, splice}
use Rattle.lemmas.specs.Tests.{◌is◌}
use Rattle.rules.specs.Drive.{Partition}
use Rattle.rules.specs.declared.Operation.{Operation}
use Rattle.rules.specs.declared.Operation.TheVariants.{Create, Delete, LoadTable, Look, Raise, Read, SetKey, Write}
use Rattle.rules.specs.Frame.{Fields, target_of}
use Rattle.rules.specs.Ledger.{
  bare_scope,
  bytes_in,
  ledger_deleted,
  LedgerObject,
  ledger_with_version,
  ledger_created,
  Ledger,
  ledger_perform,
  ledger_scope,
  number_of,
  ledger_raised,
  ledger_written,
  with_bytes_written,
}
use Rattle.rules.specs.Operations.{next_version, placement_start}
use Rattle.rules.specs.Scope.{with_partition}
use Rattle.rules.specs.Story.{Giving, Renewing, version_in}
use Rattle.rules.proofs.Finds.{
  find-change,
  find-change-other,
  find_dropped,
  find-appended,
  find-appended-other,
  find_kept,
}

-- ---- what becomes of the partition p that the frame names
abbrev pub partition_after : Operation → ℕ → Fields → Ledger → Partition LedgerObject → Partition LedgerObject
partition_after o M x l p = (ledger_perform o (with_partition p (ledger_scope M l x.cred)) x).partition

-- ---- raise, delete, create: the object's version afterwards
abbrev version_held : LedgerObject → ℕ
version_held h = h.object.version

raised-version : (n w : ℕ) (p : Partition LedgerObject) → version_in p n ≡ some w
    → version_in (ledger_raised n p) n ≡ some (p.last + 1)
unfolding version_in ledger_raised
raised-version n w p = go (n is 0)
  where
    v : ℕ
    v = next_version p

    of : (o : Option LedgerObject) → map version_held o ≡ some w
        → map version_held (map (ledger_with_version v) o) ≡ some v
    of none e = absurd (some-ne-none w (sym e))
    of (some h) e = refl

    go : (b : Bool)
        → cond b (some p.version) (map version_held (find number_of n p.objects))
        ≡ some w
        → cond b (some (cond b v p.version)) (map version_held
        (find number_of n (cond b p.objects (change number_of n (ledger_with_version v) p.objects)))) ≡ some v
    go true e = refl
    go false e =
        ap (map version_held)
        (find-change number_of n (ledger_with_version v) (λ h. refl) p.objects)
        ∙ of (find number_of n p.objects) e

deleted-version : (n : ℕ) (p : Partition LedgerObject) (u : ℕ) → (n ≡ 0 → ⊥) → version_in (ledger_deleted n p) n ≡ some u → ⊥
unfolding version_in ledger_deleted
deleted-version n p u ne e =
    some-ne-none u (sym e ∙ rw (ne_eqb n 0 ne, find_dropped number_of n p.objects) refl)

created-version : (n size start : ℕ) (p : Partition LedgerObject) → (n ≡ 0 → ⊥)
    → missing (find number_of n p.objects) ≡ true → version_in (ledger_created n size start p) n ≡ some (p.last + 1)
unfolding version_in ledger_created
created-version n size start p ne free =
    rw (ne_eqb n 0 ne, find-appended number_of n new refl p.objects free) refl
  where
    new : LedgerObject
    new = record {
      object = record { number = n; version = next_version p; size = size; start = start };
      bytes = replicate size 0;
    }

-- what a raise, a create and a delete that no row refuses have
pub record CanRenew (o : Operation) (x : Fields) (p : Partition LedgerObject) : Type 0 where
  pub raises : o ≡ Raise → version_in p x.cred.object ≡ some x.cred.version
  pub creates : (n size : ℕ) → o ≡ Create n size
      → (n ≡ 0 → ⊥) × (missing (find number_of n p.objects) ≡ true)
  pub deletes : o ≡ Delete → x.cred.object ≡ 0 → ⊥

module _ (M : ℕ) (x : Fields) (l : Ledger) (p : Partition LedgerObject) where
  -- ---- the last version given
  pub last_rises : (o : Operation) → p.last ≤ (partition_after o M x l p).last
  unfolding ledger_perform ledger_written ledger_raised ledger_created ledger_deleted
  last_rises (Read a b) = omega arith
  last_rises (Write a b) = omega arith
  last_rises Look = omega arith
  last_rises Raise = omega arith
  last_rises (Create a b) = omega arith
  last_rises Delete = omega arith
  last_rises (SetKey a) = omega arith
  last_rises LoadTable = omega arith

  pub last_next : (o : Operation) (n : ℕ) → Giving o x n → (partition_after o M x l p).last ≡ p.last + 1
  unfolding ledger_perform ledger_raised ledger_created
  last_next o n (inl r) = ap (λ (k : Operation). (partition_after k M x l p).last) r.0
  last_next o n (inr r) = ap (λ (k : Operation). (partition_after k M x l p).last) r.1

  pub last_same : (o : Operation) → ((n : ℕ) → Giving o x n → ⊥) → (partition_after o M x l p).last ≡ p.last
  unfolding ledger_perform ledger_written ledger_deleted
  last_same (Read a b) h = refl
  last_same (Write a b) h = refl
  last_same Look h = refl
  last_same Raise h = absurd (h x.cred.object (inl (refl, refl)))
  last_same (Create a b) h = absurd (h a (inr (b, refl)))
  last_same Delete h = refl
  last_same (SetKey a) h = refl
  last_same LoadTable h = refl

  -- ---- what is raised or created has the next version
  pub given_next : (o : Operation) (n : ℕ) → CanRenew o x p → Giving o x n
      → version_in (partition_after o M x l p) n ≡ some (p.last + 1)
  unfolding ledger_perform
  given_next o n can (inl r) =
      subst₂ (λ (k : Operation) (i : ℕ). version_in (partition_after k M x l p) i ≡ some (p.last + 1)) (sym r.0) r.1
      (raised-version x.cred.object x.cred.version p (can.raises r.0))
  given_next o n can (inr r) =
      subst (λ (k : Operation). version_in (partition_after k M x l p) n ≡ some (p.last + 1)) (sym r.1)
      (created-version n r.0 (placement_start (bare_scope (with_partition p (ledger_scope M l x.cred))) r.0) p
      (can.creates n r.0 r.1).0 (can.creates n r.0 r.1).1)

  -- so a renewed object, if it is there, has it, and it is the last one given
  pub renewed : (o : Operation) (n u : ℕ) → CanRenew o x p → Renewing o x n
      → version_in (partition_after o M x l p) n ≡ some u → (u ≡ p.last + 1) × ((partition_after o M x l p).last ≡ p.last + 1)
  unfolding ledger_perform
  renewed o n u can (inl g) e = (
    sym (some-injective (p.last + 1) u (sym (given_next o n can g) ∙ e)),
    last_next o n g,
  )
  renewed o n u can (inr r) e = absurd (deleted-version x.cred.object p u (can.deletes r.0)
      (subst₂ (λ (k : Operation) (i : ℕ). version_in (partition_after k M x l p) i ≡ some u) r.0 (sym r.1) e))

  -- ---- any other keeps its version, and its bytes but for a write
  same_version : (n : ℕ) {a b : Option ℕ} → a ≡ b
      → cond (n is 0) (some p.version) a ≡ cond (n is 0) (some p.version) b
  same_version n e = ap (cond (n is 0) (some p.version)) e

  of_found : {a b : Option LedgerObject} → a ≡ b → map version_held a
      ≡ map version_held b
  of_found e = ap (map version_held) e

  written-version : (k a : ℕ) (new : List ℕ) (n : ℕ) → version_in (ledger_written k a new p) n ≡ version_in p n
  unfolding version_in ledger_written with_bytes_written
  written-version k a new n = same_version n (go (ℕ_discrete k n))
    where
      go : Dec (k ≡ n)
          → map version_held (find number_of n (change number_of k (with_bytes_written a new) p.objects))
          ≡ map version_held (find number_of n p.objects)
      go (yes e) = rw e (of_found (find-change number_of n (with_bytes_written a new) (λ h. refl) p.objects)
          ∙ map-map version_held (with_bytes_written a new) (find number_of n p.objects))
      go (no e) = of_found (find-change-other number_of k n (with_bytes_written a new) (λ h. refl) e p.objects)

  raised-other : (k n : ℕ) → (k ≡ n → ⊥) → version_in (ledger_raised k p) n ≡ version_in p n
  unfolding version_in ledger_raised
  raised-other k n ne = go (k is 0) refl (n is 0) refl
    where
      v : ℕ
      v = next_version p

      go : (b : Bool) → (k is 0) ≡ b → (c : Bool) → (n is 0) ≡ c
          → cond c (some (cond b v p.version)) (map version_held
          (find number_of n (cond b p.objects (change number_of k (ledger_with_version v) p.objects))))
          ≡ cond c (some p.version) (map version_held (find number_of n p.objects))
      go true e true f = absurd (ne (eqb-true k 0 e ∙ sym (eqb-true n 0 f)))
      go true e false f = refl
      go false e true f = refl
      go false e false f = of_found (find-change-other number_of k n (ledger_with_version v) (λ h. refl) ne p.objects)

  pub renewed_or_same : (o : Operation) (n : ℕ) → Renewing o x n ⊎ (version_in (partition_after o M x l p) n ≡ version_in p n)
  unfolding ledger_perform version_in ledger_created ledger_deleted
  renewed_or_same (Read a b) n = inr refl
  renewed_or_same (Write a b) n = inr (written-version (target_of x.cred x.req) a x.payload n)
  renewed_or_same Look n = inr refl
  renewed_or_same Raise n = go (ℕ_discrete x.cred.object n)
    where
      go : Dec (x.cred.object ≡ n)
          → Renewing Raise x n ⊎ (version_in (ledger_raised x.cred.object p) n ≡ version_in p n)
      go (yes e) = inl (inl (inl (refl, e)))
      go (no e) = inr (raised-other x.cred.object n e)
  renewed_or_same (Create a b) n = go (ℕ_discrete a n)
    where
      go : Dec (a ≡ n) → Renewing (Create a b) x n ⊎ (version_in (partition_after (Create a b) M x l p) n ≡ version_in p n)
      go (yes e) = inl (inl (inr (b, ap (λ (i : ℕ). Create i b) e)))
      go (no e) = inr (same_version n (of_found (find-appended-other number_of n _ e p.objects)))
  renewed_or_same Delete n = go (ℕ_discrete x.cred.object n)
    where
      go : Dec (x.cred.object ≡ n) → Renewing Delete x n ⊎ (version_in (partition_after Delete M x l p) n ≡ version_in p n)
      go (yes e) = inl (inr (refl, e))
      go (no e) = inr (same_version n (of_found (find_kept number_of x.cred.object n e p.objects)))
  renewed_or_same (SetKey a) n = inr refl
  renewed_or_same LoadTable n = inr refl

-- ---- bytes
found-bytes : {a b : Option LedgerObject} → a ≡ b
    → get_or (map LedgerObject.bytes a) [] ≡ get_or (map LedgerObject.bytes b) []
found-bytes e = ap (λ (o : Option LedgerObject). get_or (map LedgerObject.bytes o) []) e

-- the object that is written
pub bytes-written : (n a : ℕ) (new : List ℕ) (p : Partition LedgerObject) → missing (find number_of n p.objects) ≡ false
    → bytes_in (ledger_written n a new p) n ≡ splice (bytes_in p n) a new
unfolding ledger_written with_bytes_written missing
bytes-written n a new p h =
    found-bytes (find-change number_of n (with_bytes_written a new) (λ h. refl) p.objects) ∙ of (find number_of n p.objects) h
  where
    of : (o : Option LedgerObject) → missing o ≡ false → get_or (map LedgerObject.bytes (map (with_bytes_written a new) o)) []
        ≡ splice (get_or (map LedgerObject.bytes o) []) a new
    of none e = absurd (true≢false e)
    of (some h) e = refl

-- one that is neither written nor renewed
pub bytes_same : (M : ℕ) (x : Fields) (l : Ledger) (p : Partition LedgerObject) (o : Operation) (n : ℕ)
    → (Renewing o x n → ⊥) → ((a b : ℕ) → o ≡ Write a b → target_of x.cred x.req ≡ n → ⊥)
    → bytes_in (partition_after o M x l p) n ≡ bytes_in p n
unfolding ledger_perform ledger_written with_bytes_written ledger_raised ledger_created ledger_deleted
bytes_same M x l p (Read a b) n r w = refl
bytes_same M x l p (Write a b) n r w =
    found-bytes (find-change-other number_of (target_of x.cred x.req) n (with_bytes_written a x.payload) (λ h. refl) (w a b refl)
    p.objects)
bytes_same M x l p Look n r w = refl
bytes_same M x l p Raise n r w = go (x.cred.object is 0)
  where
    v : ℕ
    v = next_version p

    go : (b : Bool)
        → get_or (map LedgerObject.bytes (find number_of n (cond b p.objects
        (change number_of x.cred.object (ledger_with_version v) p.objects)))) []
        ≡ bytes_in p n
    go true = refl
    go false = found-bytes (find-change-other number_of x.cred.object n (ledger_with_version v) (λ h. refl)
        (λ e. r (inl (inl (refl, e)))) p.objects)
bytes_same M x l p (Create a b) n r w =
    found-bytes (find-appended-other number_of n _ (λ e. r (inl (inr (b, ap (λ (i : ℕ). Create i b) e)))) p.objects)
bytes_same M x l p Delete n r w =
    found-bytes (find_kept number_of x.cred.object n (λ e. r (inr (refl, e))) p.objects)
bytes_same M x l p (SetKey a) n r w = refl
bytes_same M x l p LoadTable n r w = refl
