-- A credential of an old version, or one that has run out, opens nothing (`opens-nothing`): versions once left behind do not
-- return, and the mark never falls.
use mathlib.Core.Path.{◌≡◌, ap, refl, subst}
use mathlib.Core.Bool.{Bool, cond, false, true}
use mathlib.Core.Option.{some}
use mathlib.Core.List.{[], ◌++◌, ◌∷◌, List, Memᴰ}
use Prim.Native.Nat.{◌+◌, ◌<◌, ◌≤◌, ℕ}
use native.Mathlib.Omega.{arith}
use Rattle.lemmas.specs.Tests.{◌is◌}
use Rattle.rules.specs.Frame.{Fields, operation_of}
use Rattle.rules.specs.Ledger.{clocked, Fed, feed, Ledger, ledger, ledger_perform, ledger_scope}
use Rattle.rules.specs.Scope.{with_scope}
use Rattle.rules.specs.Story.{Carries, fed_fields, last_of, OfEveryList, OpensNothing, Renews, version_of}
use Rattle.rules.proofs.OneLog.{carried, renewed_run, rest}
use Rattle.rules.proofs.Versions.{all_fed, FedByGate, fed_rest, fed-sane, VersionsFrom}

-- ---- versions
module _ (M : ℕ) (l : Ledger) (between later : List Fed) (c d : Fed) (p n v : ℕ) where
  -- after a renewal of object n, no call that carries a version given before it is granted
  renewed_refused : FedByGate M l (between ++ (d ∷ later)) → v ≤ last_of l p → Memᴰ c between → Renews p n c
      → Carries p n v d → d.row ≡ 0 → ⊥
  renewed_refused k h m r u g = below (b.version v (carried M (ledger M l between) d later p n v
      (fed_rest M l between (d ∷ later) k) g u))
    where
      b : VersionsFrom (v + 1) p n (ledger M l between)
      b = renewed_run M l between (d ∷ later) c v p n k m r h

      below : v + 1 ≤ v → ⊥
      below z = omega arith

-- ---- the mark
mark_step : (M : ℕ) (l : Ledger) (c : Fed) → (feed M l c).high_water ≡ (clocked c.clock l).high_water
unfolding feed
mark_step M l c = go (c.row is 0)
  where
    x : Fields
    x = fed_fields c

    now : Ledger
    now = clocked c.clock l

    go : (b : Bool)
        → (cond b (with_scope x.cred (ledger_perform (operation_of x) (ledger_scope M now x.cred) x) now) now).high_water
        ≡ now.high_water
    go true = refl
    go false = refl

-- from a call on whose mark is over the expiry of d's credential, d is refused
run_out_lem : (M : ℕ) (d : Fed) (l : Ledger) (c : Fed) (later : List Fed) → FedByGate M l (c ∷ later) → Memᴰ d (c ∷ later)
    → (fed_fields d).cred.expiry < (clocked c.clock l).high_water → d.row ≡ 0 → ⊥
unfolding FedByGate clocked
run_out_lem M d l c later k (Memᴰ.head q) h g =
    let t = k.0.in_time (subst (λ (e : Fed). e.row ≡ 0) q g) in
    let x : (fed_fields d).cred.expiry ≡ (fed_fields c).cred.expiry = ap (λ (e : Fed). (fed_fields e).cred.expiry) q in
    omega (arith, t, h, x)
run_out_lem M d l c [] k (Memᴰ.tail m) h g = elim m [ ]
run_out_lem M d l c (e ∷ later) k (Memᴰ.tail m) h g =
    run_out_lem M d (feed M l c) e later k.1 m (omega (arith, h, mark_step M l c)) g

-- ---- every list
module _ (M : ℕ) (l : Ledger) (calls : List Fed) (k : FedByGate M l calls) where
  -- object n had version v, and was renewed since
  old-refused : (before between later : List Fed) (c d : Fed) (p n v : ℕ) → calls ≡ before ++ (between ++ (d ∷ later))
      → version_of (ledger M l before) p n ≡ some v → Memᴰ c between → Renews p n c → Carries p n v d
      → d.row ≡ 0 → ⊥
  old-refused before between later c d p n v q e m r u g =
      let h = rest M l calls k before (between ++ (d ∷ later)) q in
      renewed_refused M (ledger M l before) between later c d p n v h
      ((fed-sane M (ledger M l before) (between ++ (d ∷ later)) h).given p n v e) m r u g

  opens_of : OpensNothing M l calls
  unfolding clocked
  opens_of = record {
    old = old-refused;
    older = λ before between later c d p n v q h r u g.
        renewed_refused M (ledger M l before) (c ∷ between) later c d p n v
        (rest M l calls k before (c ∷ (between ++ (d ∷ later))) q) h (Memᴰ.head refl) r u g;
    member = λ before between later c d p n i v q e t m r u g.
        let f = t c m r in
        old-refused before between later f.0 d p n v q e f.1.0 f.1.1 u g;
    run_out = λ before later c d q m h g.
        run_out_lem M d (ledger M l before) c later (rest M l calls k before (c ∷ later) q) m (omega (arith, h)) g;
  }

pub opens-nothing : OfEveryList OpensNothing
opens-nothing medium F master drive calls e = opens_of _ _ _ (all_fed medium F master drive calls e)
