-- Calls that the gate feeds a ledger: every version that an object has was given before, and what one call does to an
-- object's version and bytes.
use mathlib.Core.Path.{◌∙◌, ◌≡◌, ap, refl, subst, subst₂, sym}
use mathlib.Core.Logic.{◌⊎◌, inl, inr}
use mathlib.Core.Bool.{Bool, cond, false, true, true≢false}
use mathlib.Core.Option.{none, some-injective, some-ne-none, some}
use mathlib.Core.List.{[], ◌++◌, ◌∷◌, List}
use Prim.Native.Nat.{◌+◌, ◌≤◌, suc, zero, ℕ}
use native.Mathlib.Omega.{arith}
use lib.ListN.{length}
use borrow.Author.Tests.{eq-eqb, eqb-true}
use Rattle.lemmas.specs.Lists.{find, splice}
use Rattle.lemmas.specs.Tests.{◌is◌, and_l, and_r, bool_cases, both}
use Rattle.rules.specs.Demands.{fed, State, step}
use Rattle.rules.specs.Drive.{Partition, partition_at, empty_partition}
use Rattle.rules.specs.declared.Operation.{Operation}
use Rattle.rules.specs.declared.Operation.TheVariants.{Write}
use Rattle.rules.specs.Frame.{Fields, operation, operation_of}
use Rattle.rules.specs.Gate.{Call}
use Rattle.rules.specs.Ledger.{bytes_in, clocked, Fed, feed, LedgerObject, Ledger, ledger, ledger_perform, ledger_start, ledger_written}
use Rattle.rules.specs.Story.{fed_fields, Gives, last_of, OfEveryList, Renewing, Renews, version_in, version_of, writes, reached}
use Rattle.rules.proofs.Clear.{asks_for}
use Rattle.rules.proofs.Demand.{format_inv}
use Rattle.rules.proofs.Passed.{Affected, affected_or_not, in_time_lem, Passed, passed, Unaffected}
use Rattle.rules.proofs.Renewal.{
  bytes_same,
  bytes-written,
  CanRenew,
  partition_after,
  given_next,
  last_next,
  last_rises,
  last_same,
  renewed,
  renewed_or_same,
}
use Rattle.rules.proofs.Step.{fed_of, Invariant, row_zero, step_inv}

-- every version that is there was given
abbrev pub Given : Ledger → Type 0
Given l = (p n v : ℕ) → version_of l p n ≡ some v → v ≤ last_of l p

pub record Sane (l : Ledger) : Type 0 where
  pub four : length l.partitions ≡ 4
  pub given : Given l

-- one call that the gate feeds it, and a list of them
pub record FedCall (l : Ledger) (c : Fed) : Type 0 where
  pub sane : Sane l
  pub passes : c.row ≡ 0 → Passed l (fed_fields c)
  pub in_time : c.row ≡ 0 → (clocked c.clock l).high_water ≤ (fed_fields c).cred.expiry

unfoldable pub FedByGate : ℕ → Ledger → List Fed → Type 0
FedByGate M l [] = Sane l
FedByGate M l (c ∷ cs) = FedCall l c × FedByGate M (feed M l c) cs

-- versions of object n in partition p are from w on, now and later
pub record VersionsFrom (w p n : ℕ) (l : Ledger) : Type 0 where
  pub last : w ≤ last_of l p + 1
  pub version : (u : ℕ) → version_of l p n ≡ some u → w ≤ u

-- ---- one call
module _ (M : ℕ) {l : Ledger} {c : Fed} (f : FedCall l c) where
  abbrev x : Fields
  x = fed_fields c

  abbrev now : Ledger
  now = clocked c.clock l

  abbrev next : Ledger
  next = feed M l c

  at : (p : ℕ) → Affected M l c p ⊎ Unaffected M l c p
  at p = affected_or_not M l c p f.sane.four f.passes

  can : (p : ℕ) → Affected M l c p → CanRenew (operation_of x) x (partition_at l p)
  can p h = subst (λ (r : ℕ). CanRenew (operation_of x) x (partition_at l r)) h.partition (f.passes h.granted).renews

  -- the last version given
  pub last_step : (p : ℕ) → last_of l p ≤ last_of next p
  last_step p = go (at p)
    where
      go : Affected M l c p ⊎ Unaffected M l c p → last_of l p ≤ last_of next p
      go (inl h) = subst (λ (r : Partition LedgerObject). last_of l p ≤ r.last) (sym h.effect)
          (last_rises M x now (partition_at l p) (operation_of x))
      go (inr h) = subst (λ (r : Partition LedgerObject). last_of l p ≤ r.last) (sym h.same) (omega arith)

  -- what is raised or created has the next one
  pub next_step : (p n : ℕ) → Gives p n c
      → (last_of next p ≡ last_of l p + 1) × (version_of next p n ≡ some (last_of l p + 1))
  next_step p n g = go (at p)
    where
      go : Affected M l c p ⊎ Unaffected M l c p
          → (last_of next p ≡ last_of l p + 1) × (version_of next p n ≡ some (last_of l p + 1))
      go (inl h) = (
        ap (λ (r : Partition LedgerObject). r.last) h.effect
            ∙ last_next M x now (partition_at l p) (operation_of x) n g.object,
        ap (λ (r : Partition LedgerObject). version_in r n) h.effect
            ∙ given_next M x now (partition_at l p) (operation_of x) n (can p h) g.object,
      )
      go (inr h) = absurd (h.away g.granted g.partition)

  -- any other call leaves it, and the versions of what it does not renew
  pub still_step : (p : ℕ) → ((n : ℕ) → Gives p n c → ⊥) → last_of next p ≡ last_of l p
  still_step p none-given = go (at p)
    where
      go : Affected M l c p ⊎ Unaffected M l c p → last_of next p ≡ last_of l p
      go (inl h) =
          ap (λ (r : Partition LedgerObject). r.last) h.effect
          ∙ last_same M x now (partition_at l p) (operation_of x)
          (λ n g. none-given n (record { granted = h.granted; partition = h.partition; object = g }))
      go (inr h) = ap (λ (r : Partition LedgerObject). r.last) h.same

  pub kept_step : (p n : ℕ) → (Renews p n c → ⊥) → version_of next p n ≡ version_of l p n
  kept_step p n none-renewed = go (at p)
    where
      here : Affected M l c p → Renewing (operation_of x) x n
          ⊎ (version_in (partition_after (operation_of x) M x now (partition_at l p)) n ≡ version_of l p n)
          → version_of next p n ≡ version_of l p n
      here h (inl r) = absurd (none-renewed (record { granted = h.granted; partition = h.partition; object = r }))
      here h (inr k) = ap (λ (q : Partition LedgerObject). version_in q n) h.effect ∙ k

      go : Affected M l c p ⊎ Unaffected M l c p → version_of next p n ≡ version_of l p n
      go (inl h) = here h (renewed_or_same M x now (partition_at l p) (operation_of x) n)
      go (inr h) = ap (λ (q : Partition LedgerObject). version_in q n) h.same

  -- a version is as it was, or the next one
  abbrev New : ℕ → ℕ → Type 0
  New p u = (u ≡ last_of l p + 1) × (last_of next p ≡ last_of l p + 1)

  new_here : (p n u : ℕ) → Affected M l c p → Renewing (operation_of x) x n → version_of next p n ≡ some u → New p u
  new_here p n u h r e =
      let k = renewed M x now (partition_at l p) (operation_of x) n u (can p h) r
      (ap (λ (q : Partition LedgerObject). version_in q n) (sym h.effect) ∙ e) in
      (k.0, ap (λ (q : Partition LedgerObject). q.last) h.effect ∙ k.1)

  from_step : (p n u : ℕ) → version_of next p n ≡ some u → (version_of l p n ≡ some u) ⊎ New p u
  from_step p n u e = go (at p)
    where
      here : Affected M l c p → Renewing (operation_of x) x n
          ⊎ (version_in (partition_after (operation_of x) M x now (partition_at l p)) n ≡ version_of l p n)
          → (version_of l p n ≡ some u) ⊎ New p u
      here h (inl r) = inr (new_here p n u h r e)
      here h (inr k) = inl (sym k ∙ ap (λ (q : Partition LedgerObject). version_in q n) (sym h.effect) ∙ e)

      go : Affected M l c p ⊎ Unaffected M l c p → (version_of l p n ≡ some u) ⊎ New p u
      go (inl h) = here h (renewed_or_same M x now (partition_at l p) (operation_of x) n)
      go (inr h) = inl (ap (λ (q : Partition LedgerObject). version_in q n) (sym h.same) ∙ e)

  pub given_step : Given next
  given_step p n v e = go (from_step p n v e)
    where
      go : (version_of l p n ≡ some v) ⊎ New p v → v ≤ last_of next p
      go (inl k) = omega (arith, f.sane.given p n v k, last_step p)
      go (inr k) = omega (arith, k.0, k.1)

  pub versions_from_step : (w p n : ℕ) → VersionsFrom w p n l → VersionsFrom w p n next
  versions_from_step w p n b = record {
    last = omega (arith, b.last, last_step p);
    version = λ u e. go u (from_step p n u e);
  }
    where
      go : (u : ℕ) → (version_of l p n ≡ some u) ⊎ New p u → w ≤ u
      go u (inl k) = b.version u k
      go u (inr k) = omega (arith, b.last, k.0)

  -- a renewal leaves every version given before it behind
  pub renew_step : (v p n : ℕ) → Renews p n c → v ≤ last_of l p → VersionsFrom (v + 1) p n next
  renew_step v p n r h = go (at p)
    where
      go : Affected M l c p ⊎ Unaffected M l c p → VersionsFrom (v + 1) p n next
      go (inl k) = record {
        last = omega (arith, h, last_step p);
        version = λ u e. omega (arith, h, (new_here p n u k r.object e).0);
      }
      go (inr k) = absurd (k.away r.granted r.partition)

  -- ---- bytes
  abbrev bytes_at : Ledger → ℕ → ℕ → List ℕ
  bytes_at k p n = bytes_in (partition_at k p) n

  -- a granted write to object n of partition p, taken apart
  abbrev Writes : ℕ → ℕ → Type 0
  Writes p n = (c.row ≡ 0) × (operation_of x ≡ Write x.req.A x.req.B) × (x.cred.partition ≡ p)
      × (reached c ≡ n)

  writes_is : (p n : ℕ) → writes p n c ≡ true → Writes p n
  unfolding operation
  writes_is p n e = (
    eqb-true c.row 0 (search (and_l, and_r)),
    rw (eqb-true x.req.operation 2 (search (and_l, and_r))) refl,
    eqb-true x.cred.partition p (search (and_l, and_r)),
    eqb-true (reached c) n (search (and_l, and_r)),
  )

  is_writes : (p n a b : ℕ) → c.row ≡ 0 → operation_of x ≡ Write a b → x.cred.partition ≡ p → reached c ≡ n
      → writes p n c ≡ true
  is_writes p n a b r o i j =
      both (both (both (eq-eqb c.row 0 r) (eq-eqb x.req.operation 2 (asks_for x.req (Write a b) o).0))
      (eq-eqb x.cred.partition p i)) (eq-eqb (reached c) n j)

  -- an object that is not renewed changes by the call's write, if it is one to it
  pub bytes_step : (p n : ℕ) → (Renews p n c → ⊥)
      → bytes_at next p n ≡ cond (writes p n c) (splice (bytes_at l p n) x.req.A x.payload) (bytes_at l p n)
  unfolding ledger_perform
  bytes_step p n r = go (at p) (bool_cases (writes p n c))
    where
      wrote : Affected M l c p → Writes p n → bytes_at next p n ≡ splice (bytes_at l p n) x.req.A x.payload
      wrote h w =
          ap (λ (q : Partition LedgerObject). bytes_in q n) h.effect
          ∙ ap (λ (o : Operation). bytes_in (partition_after o M x now (partition_at l p)) n) w.1
          ∙ subst₂ (λ (q k : ℕ). bytes_in (ledger_written (reached c) x.req.A x.payload (partition_at l q)) k
          ≡ splice (bytes_at l q k) x.req.A x.payload) w.2 w.3
          (bytes-written (reached c) x.req.A x.payload (partition_at l x.cred.partition)
          ((f.passes w.0).writes x.req.A x.req.B w.1))

      go : Affected M l c p ⊎ Unaffected M l c p → (writes p n c ≡ true) ⊎ (writes p n c ≡ false)
          → bytes_at next p n ≡ cond (writes p n c) (splice (bytes_at l p n) x.req.A x.payload) (bytes_at l p n)
      go (inl h) (inl e) = rw e (wrote h (writes_is p n e))
      go (inl h) (inr e) =
          rw e (ap (λ (q : Partition LedgerObject). bytes_in q n) h.effect
          ∙ bytes_same M x now (partition_at l p) (operation_of x) n
          (λ k. r (record { granted = h.granted; partition = h.partition; object = k }))
          (λ a b o k. true≢false (sym (is_writes p n a b h.granted o h.partition k) ∙ e)))
      go (inr h) (inl e) = absurd (h.away (writes_is p n e).0 (writes_is p n e).2)
      go (inr h) (inr e) = rw e (ap (λ (q : Partition LedgerObject). bytes_in q n) h.same)

-- ---- lists
pub fed-sane : (M : ℕ) (l : Ledger) (cs : List Fed) → FedByGate M l cs → Sane l
unfolding FedByGate
fed-sane M l [] k = k
fed-sane M l (c ∷ cs) k = k.0.sane

pub fed_rest : (M : ℕ) (l : Ledger) (before later : List Fed) → FedByGate M l (before ++ later)
    → FedByGate M (ledger M l before) later
unfolding FedByGate ledger
fed_rest M l [] later k = k
fed_rest M l (c ∷ cs) later k = fed_rest M (feed M l c) cs later k.1

-- what the gate feeds the ledger
run-fed : {M : ℕ} {s : State} {l : Ledger} → Invariant M s l → Given l → (calls : List Call)
    → FedByGate M l (fed s calls)
unfolding FedByGate fed
run-fed v g [] = record { four = v.consistent.four; given = g }
run-fed {M} {s} {l} v g (c ∷ cs) =
    let f : FedCall l (fed_of s c) = record {
      sane = record { four = v.consistent.four; given = g };
      passes = λ r. passed v c (row_zero v c r);
      in_time = λ r. in_time_lem v c (row_zero v c r);
    } in
    (f, run-fed {M = M} {s = step s c} {l = feed M l (fed_of s c)} (step_inv v c) (given_step M f) cs)

-- from a format on
unused_given : (F n v : ℕ) → version_in (empty_partition F) n ≡ some v → v ≤ F
unfolding version_in find
unused_given F n v e = go (n is 0) e
  where
    go : (b : Bool) → cond b (some F) none ≡ some v → v ≤ F
    go true k = omega (arith, some-injective F v k)
    go false k = absurd (some-ne-none v (sym k))

start-given : (F : ℕ) (master drive : List ℕ) → Given (ledger_start F master drive)
unfolding ledger_start
start-given F master drive zero n v e = unused_given F n v e
start-given F master drive (suc zero) n v e = unused_given F n v e
start-given F master drive (suc (suc zero)) n v e = unused_given F n v e
start-given F master drive (suc (suc (suc zero))) n v e = unused_given F n v e
start-given F master drive (suc (suc (suc (suc p)))) n v e = unused_given 0 n v e

pub all_fed : OfEveryList FedByGate
all_fed medium F master drive calls e = run-fed (format_inv medium F master drive e) (start-given F master drive) calls
