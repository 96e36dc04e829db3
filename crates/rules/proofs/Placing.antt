-- The placing rule: what `best_fit` finds is the document's choice, and the document's choice is what it finds; row 20
-- applies exactly where no gap fits. Over any step from 1, for extents that are not empty. A new extent is inside the
-- quarter and meets no other.
use mathlib.Core.Path.{◌≡◌, refl, sym, ap, ◌∙◌, subst}
use mathlib.Core.Logic.{◌⊎◌, inl, inr, ◌↔◌}
use mathlib.Core.Bool.{Bool, true, false, ◌&&◌, ◌||◌, cond, true≢false}
use mathlib.Core.Option.{Option, none, some, map, get_or}
use mathlib.Core.List.{List, [], ◌∷◌, Memᴰ}
use Prim.Native.Nat.{ℕ, ◌+◌, ◌-◌, ◌*◌, ◌/◌, ◌%◌, ◌≤◌, ◌<◌}
use native.Mathlib.Nat.{mod-lt, div-add-mod', div-lt_iff_lt-mul, mul-le-mul_right, zero-mul}
use native.Mathlib.Decide.{dec_le}
use native.Mathlib.Omega.{arith, both_ways}
use lib.Dec.{leb}
use borrow.Author.Tests.{ltb-true, ltb-false, leb-true, eqb-true, eqb-false, le-leb}
use Rattle.lemmas.specs.Tests.{◌under◌, ◌is◌, and_l, and_r, and_rest_false, or_l, or_r, or_cases, or_intro_l, or_intro_r, bool_cases}
use Rattle.lemmas.specs.Lists.{every, keep, missing}
use Rattle.lemmas.specs.ListLaws.{every_of, member-keep, keep-passes, keep-member}
use Rattle.rules.specs.declared.Object.{Object}
use Rattle.rules.specs.BestFit.{
  Gap,
  IsGap,
  gaps,
  Multiple,
  FirstMultiple,
  Fits,
  NoGap,
  spot,
  fits,
  width,
  NoWorse,
  Chosen,
  better,
  best_of,
  best_fit,
}
use Rattle.rules.proofs.Gaps.{gaps_are}

-- ---- the place in a gap is the first multiple of the step
module _ (step : ℕ) (one : 1 ≤ step) (g : Gap) where
  spot_in : g.from ≤ spot step g
  unfolding spot
  spot_in =
      let n : ℕ = g.from + (step - 1) in
      let z : 0 < step = omega arith in
      let whole : n / step * step + n % step ≡ n = div-add-mod' n step in
      let rest : n % step < step = mod-lt n z in
      omega arith

  spot-lowest : (k : ℕ) → g.from ≤ k * step → spot step g ≤ k * step
  unfolding spot
  spot-lowest k l =
      let n : ℕ = g.from + (step - 1) in
      let z : 0 < step = omega arith in
      let below : n < (k + 1) * step = omega arith in
      let few : n / step < k + 1 = (div-lt_iff_lt-mul z).1 below in
      let le : n / step ≤ k = omega arith in
      mul-le-mul_right step le

  pub spot_first : FirstMultiple step g (spot step g)
  unfolding spot
  spot_first = record {
    multiple = ((g.from + (step - 1)) / step, refl);
    behind = spot_in;
    first = λ t m l. subst (λ (n : ℕ). spot step g ≤ n) m.1 (spot-lowest m.0 (subst (λ (n : ℕ). g.from ≤ n) (sym m.1) l));
  }

-- there is one first multiple
pub first_one : {step : ℕ} {g : Gap} {s t : ℕ} → FirstMultiple step g s → FirstMultiple step g t → s ≡ t
first_one {step} {g} {s} {t} a b =
    both_ways s t (a.first t b.multiple b.behind) (b.first s a.multiple a.behind)

-- ---- the best of a list: no gap of it is smaller, and none as small has the better start
no_worse_trans : (a b c : Gap) → NoWorse a b → NoWorse b c → NoWorse a c
no_worse_trans a b c (inl h) (inl k) = inl (omega arith)
no_worse_trans a b c (inl h) (inr k) = inl (omega arith)
no_worse_trans a b c (inr h) (inl k) = inl (omega arith)
no_worse_trans a b c (inr h) (inr k) = inr (omega arith, omega arith)

no_worse_self : (g h : Gap) → h ≡ g → NoWorse g h
no_worse_self g h e = inr (ap width (sym e), omega (arith, ap Gap.from e))

-- a comparison in two steps, by a and b, among equals by s and t: what it tells where it passes, and where it fails
first_wins : (a b s t : ℕ) → (a under b || (a is b && s under t)) ≡ true → (a < b) ⊎ ((a ≡ b) × (s ≤ t))
first_wins a b s t e = go (or_cases (a under b) (a is b && s under t) e)
  where
    go : (a under b ≡ true) ⊎ ((a is b && s under t) ≡ true) → (a < b) ⊎ ((a ≡ b) × (s ≤ t))
    go (inl k) = inl (ltb-true a b k)
    go (inr k) =
        let l : s < t = ltb-true s t (and_r (a is b) (s under t) k) in
        inr (eqb-true a b (and_l (a is b) (s under t) k), omega arith)

second_wins : (a b s t : ℕ) → (a under b || (a is b && s under t)) ≡ false → (b < a) ⊎ ((b ≡ a) × (t ≤ s))
second_wins a b s t e =
    let le : b ≤ a = ltb-false a b (or_l (a under b) (a is b && s under t) e) in
    go le (or_r (a under b) (a is b && s under t) e) (bool_cases (a is b))
  where
    go : b ≤ a → (a is b && s under t) ≡ false → (a is b ≡ true) ⊎ (a is b ≡ false) → (b < a) ⊎ ((b ≡ a) × (t ≤ s))
    go le m (inl k) = inr (sym (eqb-true a b k), ltb-false s t (and_rest_false (a is b) (s under t) k m))
    go le m (inr k) = let ne : a ≡ b → ⊥ = eqb-false a b k in inl (omega arith)

-- the one that is kept of two is no worse than either
decided : (g h : Gap) (b : Bool) → better g h ≡ b → NoWorse (cond b g h) (cond b h g)
unfolding better
decided g h true e = first_wins _ _ _ _ e
decided g h false e = second_wins _ _ _ _ e

record Best (l : List Gap) (g : Gap) : Type 0 where
  member : Memᴰ g l
  least : (h : Gap) → Memᴰ h l → NoWorse g h

value : Gap → Option Gap → Gap
value g none = g
value g (some h) = h

best_held : (gs : List Gap) (held g : Gap) → best_of (some held) gs ≡ some g → Best (held ∷ gs) g
unfolding best_of value
best_held [] held g e =
    subst (Best (held ∷ [])) (ap (value held) e) (record { member = Memᴰ.head refl; least = only })
  where
    only : (h : Gap) → Memᴰ h (held ∷ []) → NoWorse held h
    only h (Memᴰ.head f) = no_worse_self held h f
    only h (Memᴰ.tail k) = elim k [ ]
best_held (x ∷ xs) held g e = go (better x held) refl (best_held xs (cond (better x held) x held) g e)
  where
    first : (b : Bool) → Memᴰ g (cond b x held ∷ xs) → Memᴰ g (held ∷ (x ∷ xs))
    first true (Memᴰ.head f) = Memᴰ.tail (Memᴰ.head f)
    first false (Memᴰ.head f) = Memᴰ.head f
    first b (Memᴰ.tail k) = Memᴰ.tail (Memᴰ.tail k)

    two : (b : Bool) → better x held ≡ b → NoWorse g (cond b x held) → (h : Gap) → (h ≡ held) ⊎ (h ≡ x) → NoWorse g h
    two true k n h (inl f) = subst (NoWorse g) (sym f) (no_worse_trans g x held n (decided x held true k))
    two true k n h (inr f) = subst (NoWorse g) (sym f) n
    two false k n h (inl f) = subst (NoWorse g) (sym f) n
    two false k n h (inr f) = subst (NoWorse g) (sym f) (no_worse_trans g held x n (decided x held false k))

    least : (b : Bool) → better x held ≡ b → Best (cond b x held ∷ xs) g → (h : Gap) → Memᴰ h (held ∷ (x ∷ xs))
        → NoWorse g h
    least b k i h (Memᴰ.head f) = two b k (i.least (cond b x held) (Memᴰ.head refl)) h (inl f)
    least b k i h (Memᴰ.tail (Memᴰ.head f)) =
        two b k (i.least (cond b x held) (Memᴰ.head refl)) h (inr f)
    least b k i h (Memᴰ.tail (Memᴰ.tail m)) = i.least h (Memᴰ.tail m)

    go : (b : Bool) → better x held ≡ b → Best (cond b x held ∷ xs) g → Best (held ∷ (x ∷ xs)) g
    go b k i = record { member = first b i.member; least = least b k i }

held_some : (gs : List Gap) (held : Gap) → missing (best_of (some held) gs) ≡ false
unfolding best_of missing
held_some [] held = refl
held_some (x ∷ xs) held = held_some xs (cond (better x held) x held)

best_some : (l : List Gap) (g : Gap) → best_of none l ≡ some g → Best l g
unfolding best_of missing
best_some [] g e = absurd (true≢false (ap missing e))
best_some (x ∷ xs) g e = best_held xs x g e

best_none : (l : List Gap) → missing (best_of none l) ≡ true → (g : Gap) → Memᴰ g l → ⊥
unfolding best_of
best_none [] e g k = elim k [ ]
best_none (x ∷ xs) e g k = true≢false (sym e ∙ held_some xs x)

-- ---- the placing rule
module _ (step : ℕ) (one : 1 ≤ step) (q : ℕ) (objects : List Object)
    (sized : (a : Object) → Memᴰ a objects → 1 ≤ a.size) (B : ℕ) where
  fitting : List Gap
  fitting = keep (fits step B) (gaps q objects)

  -- those of the list that fit are the document's that fit
  fitting-fits : (g : Gap) → Memᴰ g fitting → spot step g + B ≤ g.to
  unfolding fitting
  fitting-fits g k = leb-true (spot step g + B) g.to (keep-passes (fits step B) (gaps q objects) g k)

  is_fitting : (g : Gap) → IsGap q objects g → Fits step B g → Memᴰ g fitting
  unfolding fitting
  is_fitting g i f =
      keep-member (fits step B) (gaps q objects) g ((gaps_are q objects sized g).1 i)
      (le-leb (spot step g + B) g.to (omega (arith, first_one (spot_first step one g) f.1, f.2)))

  pub fit_chosen : (s : ℕ) → best_fit step q objects B ≡ some s → Chosen step q objects B s
  unfolding best_fit missing fitting
  fit_chosen s e = go (best_of none fitting) refl e
    where
      place : Option ℕ → ℕ
      place none = 0
      place (some y) = y

      go : (o : Option Gap) → best_of none fitting ≡ o → map (spot step) o ≡ some s → Chosen step q objects B s
      go none k e = absurd (true≢false (ap missing e))
      go (some g) k e =
          let b : Best fitting g = best_some fitting g k in
          let at : spot step g ≡ s = ap place e in
          record {
            gap = g;
            is_gap = (gaps_are q objects sized g).0 (member-keep (fits step B) (gaps q objects) g b.member);
            place = subst (FirstMultiple step g) at (spot_first step one g);
            fits = subst (λ (n : ℕ). n + B ≤ g.to) at (fitting-fits g b.member);
            least = λ h i f. b.least h (is_fitting h i f);
          }

  fit_none : missing (best_fit step q objects B) ≡ true → NoGap step q objects B
  unfolding best_fit missing fitting
  fit_none e g i f = best_none fitting (inner (best_of none fitting) e) g (is_fitting g i f)
    where
      inner : (o : Option Gap) → missing (map (spot step) o) ≡ true → missing o ≡ true
      inner none h = refl
      inner (some g) h = h

  -- row 20 applies exactly where no gap fits
  pub none_fits : (missing (best_fit step q objects B) ≡ true) ↔ NoGap step q objects B
  unfolding missing
  none_fits = (fit_none, λ h. go h (best_fit step q objects B) refl)
    where
      go : NoGap step q objects B → (o : Option ℕ) → best_fit step q objects B ≡ o → missing o ≡ true
      go h none e = refl
      go h (some s) e =
          let c : Chosen step q objects B s = fit_chosen s e in
          absurd (h c.gap c.is_gap (s, c.place, c.fits))

  -- and the place that the document names is the one found
  pub chosen_fit : (s : ℕ) → Chosen step q objects B s → best_fit step q objects B ≡ some s
  unfolding missing
  chosen_fit s c = go (best_fit step q objects B) refl
    where
      same : (g h : Gap) → IsGap q objects g → IsGap q objects h → NoWorse g h → NoWorse h g → g ≡ h
      same g h i j (inl a) (inl b) = absurd (let z : ⊥ = omega arith in z)
      same g h i j (inl a) (inr b) = absurd (let z : ⊥ = omega arith in z)
      same g h i j (inr a) (inl b) = absurd (let z : ⊥ = omega arith in z)
      same g h i j (inr a) (inr b) =
          let from : g.from ≡ h.from = omega arith in
          let to : g.to ≡ h.to = omega (arith, i.run, j.run) in
          λ k. record { from = from k; to = to k }

      unique : (r : ℕ) → Chosen step q objects B r → r ≡ s
      unique r d =
          let e : d.gap ≡ c.gap = same d.gap c.gap d.is_gap c.is_gap
          (d.least c.gap c.is_gap (s, c.place, c.fits))
          (c.least d.gap d.is_gap (r, d.place, d.fits)) in
          first_one (subst (λ (g : Gap). FirstMultiple step g r) e d.place) c.place

      go : (o : Option ℕ) → best_fit step q objects B ≡ o → best_fit step q objects B ≡ some s
      go none e = absurd (fit_none (ap missing e) c.gap c.is_gap (s, c.place, c.fits))
      go (some r) e = e ∙ ap some (unique r (fit_chosen r e))

-- what is found is a multiple of the step; none counts as 0
pub fit_multiple : (step q : ℕ) (objects : List Object) (B : ℕ) → Multiple step (get_or (best_fit step q objects B) 0)
unfolding best_fit spot
fit_multiple step q objects B = go (best_of none (keep (fits step B) (gaps q objects)))
  where
    go : (o : Option Gap) → Multiple step (get_or (map (spot step) o) 0)
    go none = (0, zero-mul step)
    go (some g) = ((g.from + (step - 1)) / step, refl)

-- ---- a new extent is inside the quarter and meets no other
-- an object's extent does not meet the B bytes from s on
abbrev pub clear_of : ℕ → ℕ → Object → Bool
clear_of s B a = leb (a.start + a.size) s || leb (s + B) a.start

pub record Placed (q : ℕ) (objects : List Object) (B s : ℕ) : Type 0 where
  pub inside : s + B ≤ q
  pub clear : every (clear_of s B) objects ≡ true

module _ (step : ℕ) (one : 1 ≤ step) (q : ℕ) (objects : List Object)
    (sized : (a : Object) → Memᴰ a objects → 1 ≤ a.size) (B : ℕ) (some_byte : 1 ≤ B) where
  chosen-placed : (s : ℕ) → Chosen step q objects B s → Placed q objects B s
  chosen-placed s c = record {
    inside = omega (arith, c.fits, c.is_gap.inside);
    clear = every_of (clear_of s B) objects (λ a k. go a k (dec_le (a.start + a.size) s) (dec_le (s + B) a.start));
  }
    where
      -- the first byte that both would have
      meet : (a : Object) → Memᴰ a objects → s < a.start + a.size → a.start < s + B
          → Dec (s ≤ a.start) → ⊥
      meet a k h l (yes e) =
          c.is_gap.free a.start (omega (arith, c.place.behind)) (omega (arith, c.fits))
          (a, k, omega arith, omega (arith, sized a k))
      meet a k h l (no e) =
          c.is_gap.free s c.place.behind (omega (arith, c.fits)) (a, k, omega arith, h)

      go : (a : Object) → Memᴰ a objects → Dec (a.start + a.size ≤ s) → Dec (s + B ≤ a.start)
          → clear_of s B a ≡ true
      go a k (yes e) f =
          or_intro_l (leb (a.start + a.size) s) (leb (s + B) a.start) (le-leb (a.start + a.size) s e)
      go a k (no e) (yes f) =
          or_intro_r (leb (a.start + a.size) s) (leb (s + B) a.start) (le-leb (s + B) a.start f)
      go a k (no e) (no f) = absurd (meet a k (omega arith) (omega arith) (dec_le s a.start))

  pub placed : missing (best_fit step q objects B) ≡ false
      → Placed q objects B (get_or (best_fit step q objects B) 0)
  unfolding missing
  placed h = go (best_fit step q objects B) refl h
    where
      go : (o : Option ℕ) → best_fit step q objects B ≡ o → missing o ≡ false → Placed q objects B (get_or o 0)
      go none e k = absurd (true≢false k)
      go (some s) e k = chosen-placed s (fit_chosen step one q objects sized B s e)
