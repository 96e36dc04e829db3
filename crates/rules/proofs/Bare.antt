-- What a grant does to the ledger is, leaving out the bytes, what it does to the drive's tables (`bare_after`); and the
-- ledger's object that a frame names.
use mathlib.Core.Path.{◌∙◌, ◌≡◌, ap, refl, sym}
use mathlib.Core.Bool.{Bool, cond, false, true}
use mathlib.Core.Option
use mathlib.Core.Option.{none, Option, get_or, some}
use mathlib.Core.List.{[], List, Memᴰ, map}
use Prim.Native.Nat.{ℕ}
use lib.ListN.{get_or-map}
use Rattle.lemmas.specs.ListLaws.{change-map, change-map_same, find-map, found, keep-map, map-append, update-map}
use Rattle.lemmas.specs.Lists.{change, find, missing}
use Rattle.lemmas.specs.Tests.{◌is◌, ◌isnt◌}
use Rattle.rules.specs.declared.Credential.{Credential}
use Rattle.rules.specs.declared.Entry.{Entry}
use Rattle.rules.specs.declared.Object.{Object}
use Rattle.rules.specs.Drive.{partition_with, Partition, partition_at, empty_partition}
use Rattle.rules.specs.declared.Operation.{Operation}
use Rattle.rules.specs.declared.Operation.TheVariants.{Create, Delete, LoadTable, Look, Raise, Read, SetKey, Write}
use Rattle.rules.specs.Frame.{Fields}
use Rattle.rules.specs.Ledger.{
  bare,
  bare_scope,
  bytes_in,
  ledger_deleted,
  LedgerObject,
  ledger_with_version,
  ledger_created,
  Ledger,
  ledger_perform,
  ledger_scope,
  number_of,
  ledger_raised,
  tables_of,
  ledger_written,
  with_bytes_written,
}
use Rattle.rules.specs.Operations.{created, deleted, next_version, no_object, perform, placement, raised, placement_start, with_version}
use Rattle.rules.specs.Scope.{with_scope, Scope, with_memory}

pub bare_at : (l : Ledger) (p : ℕ) → partition_at (tables_of l) p ≡ bare (partition_at l p)
unfolding tables_of
bare_at l p = get_or-map bare l.partitions p (empty_partition 0)

objects_with : (p : Partition Object) {a b : List Object} → a ≡ b
    → partition_with {A = Object} p.version p.last a p ≡ partition_with p.version p.last b p
objects_with p e = ap (λ (os : List Object). partition_with p.version p.last os p) e

bare-written : (n offset : ℕ) (new : List ℕ) (p : Partition LedgerObject) → bare (ledger_written n offset new p) ≡ bare p
unfolding ledger_written with_bytes_written
bare-written n offset new p = objects_with (bare p)
    (change-map_same LedgerObject.object number_of n (with_bytes_written offset new) (λ h. refl) p.objects)

bare-raised : (n : ℕ) (p : Partition LedgerObject) → bare (ledger_raised n p) ≡ raised n (bare p)
unfolding ledger_raised raised
bare-raised n p = objects_with (raised n (bare p)) (go (n is 0))
  where
    go : (b : Bool)
        → map LedgerObject.object (cond b p.objects (change number_of n (ledger_with_version (next_version p)) p.objects))
        ≡ cond b (map LedgerObject.object p.objects) (change Object.number n (with_version (next_version p))
        (map LedgerObject.object p.objects))
    go true = refl
    go false = change-map LedgerObject.object Object.number n (ledger_with_version (next_version p)) (with_version (next_version p))
        (λ h. refl) p.objects

bare-created : (number size start : ℕ) (p : Partition LedgerObject)
    → bare (ledger_created number size start p) ≡ created number size start (bare p)
unfolding ledger_created created
bare-created number size start p = objects_with (created number size start (bare p))
    (map-append LedgerObject.object p.objects _)

bare-deleted : (n : ℕ) (p : Partition LedgerObject) → bare (ledger_deleted n p) ≡ deleted n (bare p)
unfolding ledger_deleted deleted
bare-deleted n p = objects_with (bare p) (keep-map LedgerObject.object (λ (a : Object). a.number isnt n) p.objects)

pub bare_after : (o : Operation) (s : Scope LedgerObject) (l : List Entry) (x : Fields) (m : List ℕ)
    → (perform o (with_memory l (bare_scope s)) x m).scope ≡ with_memory l (bare_scope (ledger_perform o s x))
unfolding ledger_perform perform placement_start placement
bare_after (Read a b) s l x m = refl
bare_after (Write a b) s l x m = rw (bare-written _ a x.payload s.partition) refl
bare_after Look s l x m = refl
bare_after Raise s l x m = rw (bare-raised x.cred.object s.partition) refl
bare_after (Create a b) s l x m = rw (bare-created a b (placement_start (bare_scope s) b) s.partition) refl
bare_after Delete s l x m = rw (bare-deleted x.cred.object s.partition) refl
bare_after (SetKey a) s l x m = refl
bare_after LoadTable s l x m = refl

-- what a frame sees of the ledger without the bytes, beside any memory
abbrev pub sees : ℕ → Ledger → List Entry → Credential → Scope Object
sees M l es c = with_memory es (bare_scope (ledger_scope M l c))

-- and put back
pub bare_back : (x : Fields) (s : Scope LedgerObject) (l : Ledger)
    → tables_of (with_scope x.cred s l) ≡ with_scope x.cred (bare_scope s) (tables_of l)
unfolding tables_of
bare_back x s l = ap (λ (ps : List (Partition Object)). record { high_water = l.high_water; keys = s.keys; partitions = ps })
    (update-map bare (λ (old : Partition LedgerObject). s.partition) (λ (old : Partition Object). bare s.partition)
    (λ p. refl) x.cred.partition l.partitions)

-- ---- an object that a partition has without the bytes, it has with them
missing-map : (o : Option LedgerObject) → missing (Option.map LedgerObject.object o) ≡ missing o
unfolding missing
missing-map none = refl
missing-map (some h) = refl

module _ (p : Partition LedgerObject) (n : ℕ) where
  found_is : find Object.number n (bare p).objects ≡ Option.map LedgerObject.object (find number_of n p.objects)
  found_is = find-map LedgerObject.object Object.number n p.objects

  pub missing_is : missing (find number_of n p.objects) ≡ missing (find Object.number n (bare p).objects)
  missing_is = sym (missing-map (find number_of n p.objects)) ∙ ap missing (sym found_is)

  pub the_ledger_object : missing (find Object.number n (bare p).objects) ≡ false
      → (h : LedgerObject) × (find number_of n p.objects ≡ some h) × Memᴰ h p.objects × (number_of h ≡ n)
  the_ledger_object e = found number_of n p.objects (missing_is ∙ e)

  pub the_object : (e : missing (find Object.number n (bare p).objects) ≡ false)
      → get_or (find Object.number n (bare p).objects) no_object ≡ (the_ledger_object e).0.object
  the_object e = ap (λ (o : Option Object). get_or o no_object)
      (found_is ∙ ap (λ (o : Option LedgerObject). Option.map LedgerObject.object o) (the_ledger_object e).1)

  -- its bytes in the ledger
  pub the_bytes : (e : missing (find Object.number n (bare p).objects) ≡ false) → bytes_in p n ≡ (the_ledger_object e).0.bytes
  the_bytes e = ap (λ (o : Option LedgerObject). get_or (Option.map LedgerObject.bytes o) []) (the_ledger_object e).1
