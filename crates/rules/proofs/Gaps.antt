-- `gaps` are the document's gaps: the runs of free bytes that can't be lengthened.
use mathlib.Core.Path.{◌≡◌, refl, sym, ◌∙◌, subst}
use mathlib.Core.Logic.{◌⊎◌, inl, inr, ◌↔◌}
use mathlib.Core.Bool.{Bool, true, false, ◌||◌, cond}
use mathlib.Core.List.Memᴰ
use mathlib.Core.List.{List, [], ◌∷◌, map, Memᴰ}
use Prim.Native.Nat.{ℕ, ◌+◌, ◌-◌, ◌≤◌, ◌<◌, min}
use native.Mathlib.Decide.{dec_le, dec_lt}
use native.Mathlib.Omega.{arith, both_ways}
use lib.Dec.{leb}
use borrow.Author.Tests.{ltb-true, leb-true, lt-ltb, le-leb}
use Rattle.lemmas.specs.Tests.{◌under◌, and_l, and_r, both, or_cases, or_intro_l, or_intro_r}
use Rattle.lemmas.specs.Lists.{keep}
use Rattle.lemmas.specs.ListLaws.{every-member, every_of, member-keep, keep-passes, keep-member}
use Rattle.rules.specs.declared.Object.{Object}
use Rattle.rules.specs.BestFit.{Taken, Gap, IsGap, free, nearer, next, gap_from, starts, gaps}

ends : List Object → List ℕ
ends objects = map (λ (a : Object). a.start + a.size) objects

-- ---- where the next extent starts
nearer_le : (i end : ℕ) (a : Object) → nearer i end a ≤ end
nearer_le i end a = go (leb i a.start)
  where
    go : (b : Bool) → cond b (min a.start end) end ≤ end
    go true = omega arith
    go false = omega arith

pub next_le : (q : ℕ) (objects : List Object) (i : ℕ) → next q objects i ≤ q
unfolding next
next_le q [] i = omega arith
next_le q (a ∷ objects) i = omega (arith, next_le (nearer i q a) objects i, nearer_le i q a)

nearer-start : (i end : ℕ) (a : Object) → i ≤ a.start → nearer i end a ≤ a.start
nearer-start i end a h = rw (le-leb i a.start h) (omega arith)

next_start : (q : ℕ) (objects : List Object) (i : ℕ) (a : Object) → Memᴰ a objects → i ≤ a.start
    → next q objects i ≤ a.start
unfolding next
next_start q [] i a k h = elim k [ ]
next_start q (x ∷ xs) i a (Memᴰ.head e) h =
    subst (λ (y : Object). next (nearer i q x) xs i ≤ y.start) (sym e)
    (omega (arith, next_le (nearer i q x) xs i, nearer-start i q x (subst (λ (y : Object). i ≤ y.start) e h)))
next_start q (x ∷ xs) i a (Memᴰ.tail k) h = next_start (nearer i q x) xs i a k h

-- it is the quarter's end or an extent's start
Found : ℕ → List Object → ℕ → ℕ → Type 0
Found q objects i n = (n ≡ q) ⊎ ((a : Object) × Memᴰ a objects × (i ≤ a.start) × (n ≡ a.start))

nearer_is : (i end : ℕ) (a : Object) → (nearer i end a ≡ end) ⊎ ((i ≤ a.start) × (nearer i end a ≡ a.start))
nearer_is i end a = go (leb i a.start) refl
  where
    least : i ≤ a.start → Dec (a.start ≤ end)
        → (min a.start end ≡ end) ⊎ ((i ≤ a.start) × (min a.start end ≡ a.start))
    least h (yes e) = inr (h, omega arith)
    least h (no e) = inl (omega arith)

    go : (b : Bool) → leb i a.start ≡ b → (cond b (min a.start end) end ≡ end)
        ⊎ ((i ≤ a.start) × (cond b (min a.start end) end ≡ a.start))
    go true h = least (leb-true i a.start h) (dec_le a.start end)
    go false h = inl refl

next_is : (q : ℕ) (objects : List Object) (i : ℕ) → Found q objects i (next q objects i)
unfolding next Found
next_is q [] i = inl refl
next_is q (x ∷ xs) i = go (nearer_is i q x) (next_is (nearer i q x) xs i)
  where
    n : ℕ
    n = next (nearer i q x) xs i

    go : (nearer i q x ≡ q) ⊎ ((i ≤ x.start) × (nearer i q x ≡ x.start))
        → (n ≡ nearer i q x) ⊎ ((a : Object) × Memᴰ a xs × (i ≤ a.start) × (n ≡ a.start))
        → (n ≡ q) ⊎ ((a : Object) × Memᴰ a (x ∷ xs) × (i ≤ a.start) × (n ≡ a.start))
    go (inl e) (inl f) = inl (f ∙ e)
    go (inr e) (inl f) = inr (x, Memᴰ.head refl, e.0, f ∙ e.1)
    go e (inr f) = inr (f.0, Memᴰ.tail f.1, f.2, f.3)

-- ---- for extents that are not empty
module _ (q : ℕ) (objects : List Object) (sized : (a : Object) → Memᴰ a objects → 1 ≤ a.size) where
  free_at : (i : ℕ) → free objects i ≡ true → (a : Object) → Memᴰ a objects → (i < a.start)
      ⊎ (a.start + a.size ≤ i)
  unfolding free
  free_at i h a k = go (or_cases (i under a.start) (leb (a.start + a.size) i)
      (every-member (λ (a : Object). i under a.start || leb (a.start + a.size) i) objects a h k))
    where
      go : (i under a.start ≡ true) ⊎ (leb (a.start + a.size) i ≡ true) → (i < a.start) ⊎ (a.start + a.size ≤ i)
      go (inl e) = inl (ltb-true i a.start e)
      go (inr e) = inr (leb-true (a.start + a.size) i e)

  free_of : (i : ℕ) → (Taken objects i → ⊥) → free objects i ≡ true
  unfolding free
  free_of i h = every_of (λ (a : Object). i under a.start || leb (a.start + a.size) i) objects
      (λ a k. go a k (dec_lt i a.start) (dec_le (a.start + a.size) i))
    where
      go : (a : Object) → Memᴰ a objects → Dec (i < a.start) → Dec (a.start + a.size ≤ i)
          → (i under a.start || leb (a.start + a.size) i) ≡ true
      go a k (yes e) f = or_intro_l (i under a.start) (leb (a.start + a.size) i) (lt-ltb i a.start e)
      go a k (no e) (yes f) = or_intro_r (i under a.start) (leb (a.start + a.size) i) (le-leb (a.start + a.size) i f)
      go a k (no e) (no f) = absurd (h (a, k, omega arith, omega arith))

  -- a start that passes, and what runs from there
  is_gap : (i : ℕ) → (i ≡ 0) ⊎ Memᴰ i (ends objects) → free objects i ≡ true → i < next q objects i
      → IsGap q objects (record { from = i; to = next q objects i })
  unfolding ends Found
  is_gap i c f r = record {
    run = r;
    inside = next_le q objects i;
    free = λ j h k t. apart j h k t (free_at i f t.0 t.1);
    left = before c;
    right = after (next_is q objects i);
  }
    where
      apart : (j : ℕ) → i ≤ j → j < next q objects i → (t : Taken objects j) → (i < t.0.start)
          ⊎ (t.0.start + t.0.size ≤ i) → ⊥
      apart j h k t (inl e) =
          let l : i ≤ t.0.start = omega arith in
          omega (arith, next_start q objects i t.0 t.1 l, t.2)
      apart j h k t (inr e) = omega (arith, t.3)

      ended : (a : Object) × Memᴰ a objects × (a.start + a.size ≡ i) → (j : ℕ) × (j + 1 ≡ i) × Taken objects j
      ended r =
          let s : 1 ≤ r.0.size = sized r.0 r.1 in
          let e : r.0.start + r.0.size ≡ i = r.2 in
          (i - 1, omega arith, (r.0, r.1, omega arith, omega arith))

      before : (i ≡ 0) ⊎ Memᴰ i (map (λ (a : Object). a.start + a.size) objects) → (i ≡ 0)
          ⊎ ((j : ℕ) × (j + 1 ≡ i) × Taken objects j)
      before (inl e) = inl e
      before (inr k) = inr (ended (Memᴰ.of_map (λ (a : Object). a.start + a.size) objects k))

      after : (next q objects i ≡ q) ⊎ ((a : Object) × Memᴰ a objects × (i ≤ a.start)
          × (next q objects i ≡ a.start)) → (next q objects i ≡ q) ⊎ Taken objects (next q objects i)
      after (inl e) = inl e
      after (inr r) =
          let s : 1 ≤ r.0.size = sized r.0 r.1 in
          let e : next q objects i ≡ r.0.start = r.3 in
          inr (r.0, r.1, omega arith, omega arith)

  gap-listed : (g : Gap) → IsGap q objects g → Memᴰ g (gaps q objects)
  unfolding gaps ends Found
  gap-listed g h =
      subst (λ (g : Gap). Memᴰ g (gaps q objects)) (λ i. record { from = g.from; to = same i })
      (Memᴰ.map (gap_from q objects)
      (keep-member (starts q objects) (0 ∷ ends objects) g.from candidate
      (both (free_of g.from (h.free g.from (omega arith) h.run))
      (lt-ltb g.from (next q objects g.from) (omega (arith, same, h.run))))))
    where
      open_at : (j : ℕ) → g.from ≤ j → j < g.to → (a : Object) → Memᴰ a objects → a.start ≤ j
          → j < a.start + a.size → ⊥
      open_at j b c a k d e = h.free j b c (a, k, d, e)

      -- the gap ends where the next extent starts
      upper : Found q objects g.from (next q objects g.from) → g.to ≤ next q objects g.from
      upper (inl e) = omega (arith, h.inside)
      upper (inr r) = go (dec_le g.to r.0.start)
        where
          go : Dec (g.to ≤ r.0.start) → g.to ≤ next q objects g.from
          go (yes e) = omega (arith, e, r.3)
          go (no e) =
              absurd (open_at r.0.start r.2 (omega arith) r.0 r.1 (omega arith)
              (omega (arith, sized r.0 r.1)))

      lower : (g.to ≡ q) ⊎ Taken objects g.to → next q objects g.from ≤ g.to
      lower (inl e) = omega (arith, next_le q objects g.from)
      lower (inr t) = go (dec_le g.from t.0.start)
        where
          go : Dec (g.from ≤ t.0.start) → next q objects g.from ≤ g.to
          go (yes e) = omega (arith, next_start q objects g.from t.0 t.1 e, t.2)
          go (no e) =
              absurd (open_at g.from (omega arith) h.run t.0 t.1 (omega arith)
              (omega (arith, t.3, h.run)))

      same : next q objects g.from ≡ g.to
      same = both_ways (next q objects g.from) g.to (lower h.right) (upper (next_is q objects g.from))

      candidate : Memᴰ g.from (0 ∷ ends objects)
      candidate = go h.left
        where
          go : (g.from ≡ 0) ⊎ ((i : ℕ) × (i + 1 ≡ g.from) × Taken objects i)
              → Memᴰ g.from (0 ∷ ends objects)
          go (inl e) = Memᴰ.head e
          go (inr r) = Memᴰ.tail (subst (λ (n : ℕ). Memᴰ n (ends objects)) end
              (Memᴰ.map (λ (a : Object). a.start + a.size) r.2.1))
            where
              a : Object
              a = r.2.0

              past : (g.from < a.start) ⊎ (a.start + a.size ≤ g.from) → a.start + a.size ≡ g.from
              past (inl e) = absurd (let z : ⊥ = omega (arith, r.1, r.2.2, e) in z)
              past (inr e) = omega (arith, r.1, r.2.3)

              end : a.start + a.size ≡ g.from
              end = past (free_at g.from (free_of g.from (h.free g.from (omega arith) h.run)) a
                  r.2.1)

  listed-gap : (g : Gap) → Memᴰ g (gaps q objects) → IsGap q objects g
  unfolding gaps ends
  listed-gap g k =
      let r = Memᴰ.of_map (gap_from q objects) (keep (starts q objects) (0 ∷ ends objects)) k in
      subst (IsGap q objects) r.2 (is_gap r.0
      (first (member-keep (starts q objects) (0 ∷ ends objects) r.0 r.1))
      (and_l (free objects r.0) (r.0 under next q objects r.0)
      (keep-passes (starts q objects) (0 ∷ ends objects) r.0 r.1))
      (ltb-true r.0 (next q objects r.0) (and_r (free objects r.0) (r.0 under next q objects r.0)
      (keep-passes (starts q objects) (0 ∷ ends objects) r.0 r.1))))
    where
      first : {i : ℕ} → Memᴰ i (0 ∷ ends objects) → (i ≡ 0) ⊎ Memᴰ i (ends objects)
      first (Memᴰ.head e) = inl e
      first (Memᴰ.tail k) = inr k

  -- the list of gaps is that of the document's
  pub gaps_are : (g : Gap) → Memᴰ g (gaps q objects) ↔ IsGap q objects g
  gaps_are g = (listed-gap g, gap-listed g)
