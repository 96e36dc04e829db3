-- What is known of a granted call by rows 4, 6, 10, 14, 15 and 18, in terms of the ledger before it; and what a call does to
-- each partition of the ledger. l: a ledger. c: a call that it is fed. p: a partition's number.
use mathlib.Core.Path.{◌∙◌, ◌≡◌, ap, refl, subst, sym}
use mathlib.Core.Logic.{◌⊎◌, inl, inr}
use mathlib.Core.Bool.{false, true}
use mathlib.Core.Option.{map, some}
use mathlib.Core.List.{List}
use Prim.Native.Nat.{◌<◌, ◌≤◌, ℕ}
use native.Mathlib.Decide.{ℕ_discrete}
use native.Mathlib.Omega.{arith}
use lib.ListN.{length}
use borrow.Author.Tests.{eq-eqb, ne_eqb}
use Rattle.lemmas.specs.Lists.{find, missing}
use Rattle.rules.specs.declared.Entry.{Entry}
use Rattle.rules.specs.declared.Object.{Object}
use Rattle.rules.specs.Demands.{call_fields, State}
use Rattle.rules.specs.Drive.{Partition, partition_at}
use Rattle.rules.specs.declared.Operation.TheVariants.{Raise, Write}
use Rattle.rules.specs.Frame.{Fields, operation_of, target_of}
use Rattle.rules.specs.Gate.{Call}
use Rattle.rules.specs.Ledger.{clocked, Fed, feed, LedgerObject, Ledger, ledger_perform, ledger_scope, number_of}
use Rattle.rules.specs.Operations.{named_object, object_of, present_version}
use Rattle.rules.specs.Scope.{Scope, drive_scope}
use Rattle.rules.specs.Story.{fed_fields, version_in, version_of}
use Rattle.rules.proofs.Bare.{missing_is, sees, the_ledger_object, the_object}
use Rattle.rules.proofs.Clear.{asks_for, Clear, deletes-object, exists, number-free, unexpired, version_is}
use Rattle.rules.proofs.Renewal.{CanRenew, partition_after}
use Rattle.rules.proofs.Sound.{with_scope_here, with_scope_there}
use Rattle.rules.proofs.Step.{clear_of_lem, entries, fresh, Invariant, row_of, sees_is, the_grant}

pub record Passed (l : Ledger) (x : Fields) : Type 0 where
  pub partition : x.cred.partition < 4
  -- operations 1 to 6 name what is there, by its version
  pub version : x.req.operation ≤ 6 → version_of l x.cred.partition x.cred.object ≡ some x.cred.version
  pub writes : (a b : ℕ) → operation_of x ≡ Write a b
      → missing (find number_of (target_of x.cred x.req) (partition_at l x.cred.partition).objects) ≡ false
  pub renews : CanRenew (operation_of x) x (partition_at l x.cred.partition)

-- the version that a frame names, by the ledger
version-held : (M : ℕ) (l : Ledger) (es : List Entry) (x : Fields)
    → ((x.cred.object ≡ 0 → ⊥) → missing (named_object (sees M l es x.cred) x.cred.object) ≡ false)
    → x.cred.version ≡ present_version (sees M l es x.cred) x.cred.object
    → version_of l x.cred.partition x.cred.object ≡ some x.cred.version
unfolding version_in present_version named_object object_of
version-held M l es x h e = go (ℕ_discrete x.cred.object 0)
  where
    p : Partition LedgerObject
    p = partition_at l x.cred.partition

    n : ℕ
    n = x.cred.object

    go : Dec (n ≡ 0) → version_in p n ≡ some x.cred.version
    go (yes z) = rw (eq-eqb n 0 z) (ap some (sym (e ∙ rw (eq-eqb n 0 z) refl)))
    go (no z) =
        rw (ne_eqb n 0 z)
        (ap (map (λ (k : LedgerObject). k.object.version)) (the_ledger_object p n (h z)).1
        ∙ ap some (sym (e ∙ rw (ne_eqb n 0 z) (ap Object.version (the_object p n (h z))))))

pub passed : {M : ℕ} {s : State} {l : Ledger} → Invariant M s l → (c : Call) → row_of s c ≡ 0 → Passed l (call_fields c)
unfolding clocked named_object
passed {M} {s} {l} v c g = record {
  partition = (the_grant v c g).partition;
  version = version;
  writes = λ a b o. missing_is p (target_of x.cred x.req) ∙ ((the_grant v c g).writes a b o).there;
  renews = record {
    raises = λ o. version (omega (arith, asks_for x.req Raise o));
    creates = λ n size o. (
      λ z. not_zero ((the_grant v c g).creates n size o).number_one z,
      missing_is p n ∙ now (λ (t : Scope Object). missing (find Object.number n t.partition.objects) ≡ true)
          (number-free ok n size o),
    );
    deletes = deletes-object ok;
  };
}
  where
    x : Fields
    x = call_fields c

    p : Partition LedgerObject
    p = partition_at l x.cred.partition

    ok : Clear c.frame (drive_scope (fresh s c) x.cred) s.medium c.space
    ok = clear_of_lem v c g

    now : (P : Scope Object → Type 0) → P (drive_scope (fresh s c) x.cred)
        → P (sees M (clocked c.clock l) (entries v c) x.cred)
    now P h = subst P (sees_is v c) h

    version : x.req.operation ≤ 6
        → version_of l x.cred.partition x.cred.object ≡ some x.cred.version
    version h = version-held M (clocked c.clock l) (entries v c) x
        (λ z. now (λ (t : Scope Object). missing (named_object t x.cred.object) ≡ false) (exists ok z))
        (now (λ (t : Scope Object). x.cred.version ≡ present_version t x.cred.object) (version_is ok h))

    not_zero : {n : ℕ} → 1 ≤ n → n ≡ 0 → ⊥
    not_zero h z = omega arith

-- its credential has not run out by the mark that it sets
pub in_time_lem : {M : ℕ} {s : State} {l : Ledger} → Invariant M s l → (c : Call) → row_of s c ≡ 0
    → (clocked c.clock l).high_water ≤ (call_fields c).cred.expiry
in_time_lem v c g = subst (λ (t : Scope Object). t.high_water ≤ (call_fields c).cred.expiry) (sees_is v c)
    (unexpired (clear_of_lem v c g))

-- ---- what a call does to partition p: the partition_after of its grant, or nothing
pub record Affected (M : ℕ) (l : Ledger) (c : Fed) (p : ℕ) : Type 0 where
  pub granted : c.row ≡ 0
  pub partition : (fed_fields c).cred.partition ≡ p
  pub effect : partition_at (feed M l c) p
      ≡ partition_after (operation_of (fed_fields c)) M (fed_fields c) (clocked c.clock l) (partition_at l p)

pub record Unaffected (M : ℕ) (l : Ledger) (c : Fed) (p : ℕ) : Type 0 where
  pub same : partition_at (feed M l c) p ≡ partition_at l p
  pub away : c.row ≡ 0 → (fed_fields c).cred.partition ≡ p → ⊥

pub affected_or_not : (M : ℕ) (l : Ledger) (c : Fed) (p : ℕ) → length l.partitions ≡ 4
    → (c.row ≡ 0 → Passed l (fed_fields c)) → Affected M l c p ⊎ Unaffected M l c p
unfolding feed clocked
affected_or_not M l c p four ok = go (ℕ_discrete c.row 0) (ℕ_discrete p (fed_fields c).cred.partition)
  where
    x : Fields
    x = fed_fields c

    go : Dec (c.row ≡ 0) → Dec (p ≡ x.cred.partition) → Affected M l c p ⊎ Unaffected M l c p
    go (no r) d = inr (record { same = rw (ne_eqb c.row 0 r) refl; away = λ z e. r z })
    go (yes r) (yes e) = inl (record {
      granted = r;
      partition = sym e;
      effect = rw (eq-eqb c.row 0 r, e) (with_scope_here x.cred
          (ledger_perform (operation_of x) (ledger_scope M (clocked c.clock l) x.cred) x) (clocked c.clock l)
          (omega (arith, (ok r).partition, four)));
    })
    go (yes r) (no e) = inr (record {
      same = rw (eq-eqb c.row 0 r) (with_scope_there x.cred
          (ledger_perform (operation_of x) (ledger_scope M (clocked c.clock l) x.cred) x) (clocked c.clock l) p e);
      away = λ z k. e (sym k);
    })
