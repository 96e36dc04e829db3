-- Each partition gives each version once (`versions-once`), and so two uses of an object under one version are of one
-- log (`one_log_lem`).
use mathlib.Core.Path.{◌∙◌, ◌≡◌, ap, refl, subst, subst₂, sym}
use mathlib.Core.Logic.{inl, inr}
use mathlib.Core.Option.{some-injective, some}
use mathlib.Core.List.{[], ◌++◌, ◌∷◌, List, Memᴰ}
use Prim.Native.Nat.{◌+◌, ◌≤◌, ℕ}
use native.Mathlib.Omega.{arith}
use Rattle.rules.specs.Drive.{partition_at}
use Rattle.rules.specs.declared.Operation.TheVariants.{Create, Delete, Raise}
use Rattle.rules.specs.Frame.{Fields, operation_of}
use Rattle.rules.specs.Ledger.{bytes_in, bytes_of, Fed, feed, Ledger, ledger}
use Rattle.rules.specs.Story.{
  Carries,
  fed_fields,
  last_of,
  OfEveryList,
  OneLog,
  reached,
  Renewing,
  Renews,
  rewritten,
  Together,
  Uses,
  version_of,
  VersionsOnce,
}
use Rattle.rules.proofs.Clear.{asks_for}
use Rattle.rules.proofs.Versions.{
  all_fed,
  VersionsFrom,
  versions_from_step,
  bytes_step,
  FedByGate,
  fed_rest,
  fed-sane,
  kept_step,
  last_step,
  next_step,
  renew_step,
  Sane,
  still_step,
}

ledger-append : (M : ℕ) (l : Ledger) (a b : List Fed) → ledger M l (a ++ b) ≡ ledger M (ledger M l a) b
unfolding ledger
ledger-append M l [] b = refl
ledger-append M l (c ∷ cs) b = ledger-append M (feed M l c) cs b

-- ---- any number of calls
rises-run : (M : ℕ) (l : Ledger) (between later : List Fed) (p : ℕ) → FedByGate M l (between ++ later)
    → last_of l p ≤ last_of (ledger M l between) p
unfolding FedByGate ledger
rises-run M l [] later p k = omega arith
rises-run M l (c ∷ cs) later p k =
    omega (arith, last_step M k.0 p, rises-run M (feed M l c) cs later p k.1)

versions_from_run : (M : ℕ) (l : Ledger) (between later : List Fed) (w p n : ℕ) → FedByGate M l (between ++ later)
    → VersionsFrom w p n l → VersionsFrom w p n (ledger M l between)
unfolding FedByGate ledger
versions_from_run M l [] later w p n k b = b
versions_from_run M l (c ∷ cs) later w p n k b =
    versions_from_run M (feed M l c) cs later w p n k.1 (versions_from_step M k.0 w p n b)

pub renewed_run : (M : ℕ) (l : Ledger) (between later : List Fed) (e : Fed) (v p n : ℕ) → FedByGate M l (between ++ later)
    → Memᴰ e between → Renews p n e → v ≤ last_of l p → VersionsFrom (v + 1) p n (ledger M l between)
unfolding FedByGate ledger
renewed_run M l [] later e v p n k m r h = elim m [ ]
renewed_run M l (c ∷ cs) later e v p n k (Memᴰ.head q) r h =
    versions_from_run M (feed M l c) cs later (v + 1) p n k.1
    (renew_step M k.0 v p n (subst (Renews p n) q r) h)
renewed_run M l (c ∷ cs) later e v p n k (Memᴰ.tail m) r h =
    renewed_run M (feed M l c) cs later e v p n k.1 m r (omega (arith, h, last_step M k.0 p))

bytes_run : (M : ℕ) (l : Ledger) (between later : List Fed) (p n : ℕ) → FedByGate M l (between ++ later)
    → ((e : Fed) → Memᴰ e between → Renews p n e → ⊥)
    → bytes_in (partition_at (ledger M l between) p) n ≡ rewritten p n between (bytes_in (partition_at l p) n)
unfolding FedByGate ledger rewritten
bytes_run M l [] later p n k r = refl
bytes_run M l (c ∷ cs) later p n k r =
    bytes_run M (feed M l c) cs later p n k.1 (λ e m. r e (Memᴰ.tail m))
    ∙ ap (rewritten p n cs) (bytes_step M k.0 p n (r c (Memᴰ.head refl)))

-- ---- a granted call of operations 1 to 6, so a use too, names the version that is there
pub carried : (M : ℕ) (l : Ledger) (c : Fed) (later : List Fed) (p n v : ℕ) → FedByGate M l (c ∷ later) → c.row ≡ 0
    → Carries p n v c → version_of l p n ≡ some v
unfolding FedByGate
carried M l c later p n v k g u =
    subst₂ (λ (q i : ℕ). version_of l q i ≡ some v) u.partition u.object
    ((k.0.passes g).version u.operation ∙ ap some u.version)

used : (M : ℕ) (l : Ledger) (c : Fed) (later : List Fed) (p n v : ℕ) → FedByGate M l (c ∷ later) → Uses p n v c
    → version_of l p n ≡ some v
used M l c later p n v k u = carried M l c later p n v k u.granted (record {
  operation = omega (arith, u.operation);
  partition = u.partition;
  object = u.object;
  version = u.version;
})

there_versions_from : (l : Ledger) (p n v : ℕ) → Sane l → version_of l p n ≡ some v → VersionsFrom v p n l
there_versions_from l p n v s e = record {
  last = omega (arith, s.given p n v e);
  version = λ u f. omega (arith, some-injective v u (sym e ∙ f));
}

same_run : (M : ℕ) (l : Ledger) (between later : List Fed) (d e : Fed) (p n v u : ℕ)
    → FedByGate M l (between ++ (d ∷ later)) → VersionsFrom v p n l → Memᴰ e between → Uses p n u e → Uses p n v d → u ≡ v
unfolding FedByGate ledger
same_run M l [] later d e p n v u k b m ue ud = elim m [ ]
same_run M l (c ∷ cs) later d e p n v u k b (Memᴰ.head q) ue ud =
    let there : version_of l p n ≡ some u = used M l c (cs ++ (d ∷ later)) p n u k (subst (Uses p n u) q ue) in
    let on : VersionsFrom u p n (ledger M l (c ∷ cs)) =
    versions_from_run M l (c ∷ cs) (d ∷ later) u p n k (there_versions_from l p n u k.0.sane there) in
    omega (
      arith,
      b.version u there,
      on.version v (used M (ledger M l (c ∷ cs)) d later p n v (fed_rest M l (c ∷ cs) (d ∷ later) k) ud),
    )
same_run M l (c ∷ cs) later d e p n v u k b (Memᴰ.tail m) ue ud =
    same_run M (feed M l c) cs later d e p n v u k.1 (versions_from_step M k.0 v p n b) m ue ud

-- a use renews nothing
renews_none : (p n k v : ℕ) (c : Fed) → Uses p n v c → Renews p k c → ⊥
renews_none p n k v c u r = go r.object
  where
    x : Fields
    x = fed_fields c

    go : Renewing (operation_of x) x k → ⊥
    go (inl (inl h)) = omega (arith, u.operation, asks_for x.req Raise h.0)
    go (inl (inr h)) = omega (arith, u.operation, (asks_for x.req (Create k h.0) h.1).0)
    go (inr h) = omega (arith, u.operation, asks_for x.req Delete h.0)

module _ (M : ℕ) (l : Ledger) (calls : List Fed) (k : FedByGate M l calls) where
  pub rest : (before later : List Fed) → calls ≡ before ++ later → FedByGate M (ledger M l before) later
  rest before later q = fed_rest M l before later (subst (FedByGate M l) q k)

  once_of : VersionsOnce M l calls
  unfolding FedByGate ledger
  once_of = record {
    rises = λ before between later p q.
        subst (λ (a : Ledger). last_of (ledger M l before) p ≤ last_of a p) (sym (ledger-append M l before between))
        (rises-run M (ledger M l before) between later p (rest before (between ++ later) q));
    next = λ before later c p n q g.
        let h = rest before (c ∷ later) q in
        let was : ℕ = last_of (ledger M l before) p in
        subst (λ (a : Ledger). (last_of a p ≡ was + 1) × (version_of a p n ≡ some (was + 1)))
        (sym (ledger-append M l before (c ∷ [])))
        (next_step M h.0 p n g);
    still = λ before later c p q h.
        ap (λ (a : Ledger). last_of a p) (ledger-append M l before (c ∷ []))
        ∙ still_step M (rest before (c ∷ later) q).0 p h;
    kept = λ before later c p n q h.
        ap (λ (a : Ledger). version_of a p n) (ledger-append M l before (c ∷ []))
        ∙ kept_step M (rest before (c ∷ later) q).0 p n h;
    given = λ before later p n v q e.
        (fed-sane M (ledger M l before) later (rest before later q)).given p n v e;
    once = λ before between later c p n v q e r f.
        let h = rest before (c ∷ (between ++ later)) q in
        let b = versions_from_run M (feed M (ledger M l before) c) between later (v + 1) p n h.1
        (renew_step M h.0 v p n r (h.0.sane.given p n v e)) in
        below v (b.version v (ap (λ (a : Ledger). version_of a p n) (sym (ledger-append M l before (c ∷ between)))
        ∙ f));
  }
    where
      below : (v : ℕ) → v + 1 ≤ v → ⊥
      below v h = omega arith

  -- no renewal between two uses under one version
  between_uses : (before between later : List Fed) (c d e : Fed) (p n v : ℕ)
      → calls ≡ before ++ (c ∷ (between ++ (d ∷ later))) → Uses p n v c → Uses p n v d → Memᴰ e between
      → Renews p n e → ⊥
  unfolding FedByGate ledger
  between_uses before between later c d e p n v q uc ud m r =
      below (b.version v (used M (ledger M now between) d later p n v
      (fed_rest M now between (d ∷ later) h.1) ud))
    where
      was : Ledger
      was = ledger M l before

      now : Ledger
      now = feed M was c

      h : FedByGate M was (c ∷ (between ++ (d ∷ later)))
      h = rest before (c ∷ (between ++ (d ∷ later))) q

      old : v ≤ last_of was p
      old = h.0.sane.given p n v (used M was c (between ++ (d ∷ later)) p n v h uc)

      b : VersionsFrom (v + 1) p n (ledger M now between)
      b = renewed_run M now between (d ∷ later) e v p n h.1 m r
          (omega (arith, old, last_step M h.0 p))

      below : v + 1 ≤ v → ⊥
      below z = omega arith

  -- nor of a log k whose renewals come with those of what the uses name
  together_uses : (before between later : List Fed) (c d e : Fed) (p n k v : ℕ)
      → calls ≡ before ++ (c ∷ (between ++ (d ∷ later))) → Uses p n v c → Uses p n v d → Together p n k between
      → Memᴰ e between → Renews p k e → ⊥
  together_uses before between later c d e p n k v q uc ud t m r =
      let f = t e m r in
      between_uses before between later c d f.0 p n v q uc ud f.1.0 f.1.1

  -- so its bytes change by writes only
  together_bytes : (before between later : List Fed) (c d : Fed) (p n k v : ℕ)
      → calls ≡ before ++ (c ∷ (between ++ (d ∷ later))) → Uses p n v c → Uses p n v d → Together p n k between
      → reached c ≡ k → reached d ≡ k
      → bytes_of (ledger M l (before ++ (c ∷ between))) (fed_fields d)
      ≡ rewritten p k (c ∷ between) (bytes_of (ledger M l before) (fed_fields c))
  unfolding bytes_of
  together_bytes before between later c d p n k v q uc ud t rc rd =
      subst₂ (λ (i j : ℕ). bytes_in (partition_at (ledger M l (before ++ (c ∷ between))) i) j
      ≡ rewritten p k (c ∷ between) (bytes_in (partition_at was (fed_fields c).cred.partition) (reached c)))
      (sym ud.partition) (sym rd)
      (subst₂ (λ (i j : ℕ). bytes_in (partition_at (ledger M l (before ++ (c ∷ between))) p) k
      ≡ rewritten p k (c ∷ between) (bytes_in (partition_at was i) j))
      (sym uc.partition) (sym rc)
      (ap (λ (a : Ledger). bytes_in (partition_at a p) k) (ledger-append M l before (c ∷ between))
      ∙ bytes_run M was (c ∷ between) (d ∷ later) p k (rest before (c ∷ (between ++ (d ∷ later))) q) none))
    where
      was : Ledger
      was = ledger M l before

      none : (e : Fed) → Memᴰ e (c ∷ between) → Renews p k e → ⊥
      none e (Memᴰ.head i) r = renews_none p n k v c uc (subst (Renews p k) i r)
      none e (Memᴰ.tail m) r = together_uses before between later c d e p n k v q uc ud t m r

  one_of : OneLog M l calls
  unfolding FedByGate ledger
  one_of = record {
    unbroken = between_uses;
    same = λ before between later c d e p n v u q uc ud m ue.
        let was : Ledger = ledger M l before in
        let h = rest before (c ∷ (between ++ (d ∷ later))) q in
        let b : VersionsFrom v p n was = there_versions_from was p n v h.0.sane (used M was c (between ++ (d ∷ later)) p n v h uc) in
        same_run M (feed M was c) between later d e p n v u h.1 (versions_from_step M h.0 v p n b) m ue
        ud;
    bytes = λ before between later c d p n v q uc ud.
        together_bytes before between later c d p n n v q uc ud (λ e m r. (e, (m, r)));
    member = together_uses;
    member_bytes = together_bytes;
  }

pub versions-once : OfEveryList VersionsOnce
versions-once medium F master drive calls e =
    once_of _ _ _ (all_fed medium F master drive calls e)

pub one_log_lem : OfEveryList OneLog
one_log_lem medium F master drive calls e =
    one_of _ _ _ (all_fed medium F master drive calls e)
