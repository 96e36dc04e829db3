-- Document 01, operation 5: where a new area (extent) starts, as one pass over the objects, and that it is best_fit.
-- q: the quarter. B: the size asked for.
use Rattle.std.specs.Prelude.{◌≡◌, Bool, true, false, not, ◌&&◌, ◌||◌, length, get_or, take, leb, ltb}
use Rattle.std.proofs.Math.Path.{refl, sym, ap}
use Rattle.std.proofs.Common.{◌∙◌, mul-zero, zero-mul, arith, lt-ltb, le-ltb, le-leb}
use Rattle.std.proofs.Math.Bool.{cond, and-false}
use borrow.Author.Tests.{lt-leb}
use Rattle.std.proofs.Math.Option
use Rattle.std.proofs.Math.Option.{Option, none, some}
use mathlib.Core.List.{List, [], ◌∷◌, ◌++◌, map}
use Prim.Native.Nat.{ℕ, zero, suc, ◌+◌, ◌-◌, ◌*◌, ◌/◌, ◌%◌, ◌≤◌, ◌<◌, min}
use Rattle.std.proofs.Math.Nat.{div-eq_of_lt, div-eq_of_lt-le, div-add-mod}
use Rattle.std.proofs.Math.Decide.{dec_lt}
use Rattle.lemmas.specs.Tests.{◌under◌}
use Rattle.lemmas.specs.Lists.{every, keep}
use Rattle.lemmas.specs.Options.{option_of}
use Rattle.std.specs.Option.{option_map}
use Rattle.lemmas.specs.Loops.{fold, fold-take, take_more}
use Rattle.rules.specs.declared.Object.{Object}
use Rattle.rules.specs.BestFit.{
  Gap,
  spot,
  free,
  nearer,
  next,
  gap_from,
  starts,
  gaps,
  fits,
  better,
  better_of,
  best_of,
  best_fit,
}
use Rattle.rules.specs.Operations.{no_object}
use Rattle.rules.proofs.Gaps.{next_le}
use Rattle.std.proofs.lemmas.List.{get_or-map}
use Rattle.std.proofs.Math.Seq.{take_all}
use Rattle.std.specs.Prelude.{Some, None}
use Rattle.std.specs.Prelude as std
use Rattle.std.specs.List.{fold as std_fold, list_all, zip}
use Rattle.placing.specs.declared.Gap as code

-- a gap of the code's as the rules have it
abbrev pub gap_of : code.Gap → Gap
gap_of g = record { from = g.from; to = g.to }

-- the best so far, if there is one
abbrev pub Held : Type 0
Held = Option Gap

-- one of theirs with the place in it, and likewise the best so far
abbrev pub placed : ℕ → Gap → code.Gap
placed step g = record { from = g.from; to = g.to; start = spot step g }

abbrev pub placed_option : ℕ → Held → std.Option code.Gap
placed_option step none = None
placed_option step (some g) = Some (placed step g)

-- a byte is not in an area
abbrev pub is_outside : ℕ → ℕ → ℕ → Bool
is_outside start size i = i under start || leb (start + size) i

-- the gap from place i on, if there is one and B bytes remain from the place in it
unfoldable pub candidate : ℕ → ℕ → List Object → ℕ → ℕ → std.Option code.Gap
candidate step q objects B i =
    cond (starts q objects i && fits step B (gap_from q objects i)) (Some (placed step (gap_from q objects i))) None

-- the better of the best so far and the gap from place i on, if there is one that takes B bytes
unfoldable pub tried : ℕ → ℕ → List Object → ℕ → Option Gap → ℕ → Option Gap
tried step q objects B best i =
    cond (starts q objects i && fits step B (gap_from q objects i)) (better_of best (gap_from q objects i)) best

-- where an area ends
abbrev pub end_of : Object → ℕ
end_of a = a.start + a.size

-- the best gap: from the quarter's start or from where an area ends
unfoldable pub chosen : ℕ → ℕ → List Object → ℕ → Option Gap
chosen step q objects B =
    fold (λ best (a : Object). tried step q objects B best (end_of a)) (tried step q objects B none 0) objects

-- ---- laws: the code's chains over the areas' starts and sizes
pub free_all : (objects : List Object) (i : ℕ)
    → free objects i ≡ list_all (λ (p : ℕ × ℕ). is_outside p.0 p.1 i) (zip (map Object.start objects) (map Object.size objects))
unfolding free every
free_all [] i = refl
free_all (a ∷ objects) i = ap (λ (b : Bool). is_outside a.start a.size i && b) (free_all objects i)

pub next_fold : (q : ℕ) (objects : List Object) (i : ℕ)
    → next q objects i ≡ std_fold (λ (end start : ℕ). cond (leb i start) (min start end) end) q (map Object.start objects)
unfolding next
next_fold q [] i = refl
next_fold q (a ∷ objects) i = next_fold (nearer i q a) objects i

-- ---- laws: the pass over the candidates
module _ (step q B : ℕ) (objects : List Object) where
  pass : (best : Option Gap) (cs : List ℕ)
      → best_of best (keep (fits step B) (map (gap_from q objects) (keep (starts q objects) cs)))
      ≡ fold (tried step q objects B) best cs
  unfolding best_of keep tried
  pass best [] = refl
  pass best (i ∷ cs) =
      go (starts q objects i) (fits step B (gap_from q objects i)) refl (λ o. pass o cs)
    where
      kept : List ℕ
      kept = keep (starts q objects) cs

      go : (s f : Bool) → fits step B (gap_from q objects i) ≡ f
          → ((o : Option Gap) → best_of o (keep (fits step B) (map (gap_from q objects) kept))
          ≡ fold (tried step q objects B) o cs)
          → best_of best (keep (fits step B) (map (gap_from q objects) (cond s (i ∷ kept) kept)))
          ≡ fold (tried step q objects B) (cond (s && f) (better_of best (gap_from q objects i)) best) cs
      go true true k ih = rw k (ih (better_of best (gap_from q objects i)))
      go true false k ih = rw k (ih best)
      go false f k ih = ih best

  fold-map : (best : Option Gap) (l : List Object)
      → fold (tried step q objects B) best (map end_of l)
      ≡ fold (λ b (a : Object). tried step q objects B b (end_of a)) best l
  fold-map best [] = refl
  fold-map best (a ∷ l) = fold-map (tried step q objects B best (end_of a)) l

  pub chosen_best : best_fit step q objects B ≡ Option.map (spot step) (chosen step q objects B)
  unfolding best_fit gaps chosen
  chosen_best =
      ap (Option.map (spot step))
      (pass none (0 ∷ map end_of objects) ∙ fold-map (tried step q objects B none 0) objects)

-- ---- laws: the next area
pub near : (i end s : ℕ) → cond (leb i s && ltb s end) s end ≡ cond (leb i s) (min s end) end
near i end s = go (leb i s) (dec_lt s end)
  where
    go : (b : Bool) → Dec (s < end) → cond (b && ltb s end) s end ≡ cond b (min s end) end
    go true (yes h) = let e : s ≡ min s end = omega arith in rw (lt-ltb s end h) e
    go true (no h) = let e : end ≡ min s end = omega arith in rw (le-ltb s end (omega arith)) e
    go false d = refl

next_more : (q : ℕ) (l : List Object) (i : ℕ) (a : Object) → next q (l ++ (a ∷ [])) i ≡ nearer i (next q l i) a
unfolding next
next_more q [] i a = refl
next_more q (b ∷ l) i a = next_more (nearer i q b) l i a

pub next_take : (q : ℕ) (l : List Object) (i k : ℕ) (d : Object) → k < length l
    → next q (take (k + 1) l) i ≡ nearer i (next q (take k l) i) (get_or l k d)
next_take q l i k d h = rw (take_more l k d h) (next_more q (take k l) i (get_or l k d))

-- ---- laws: the place in a gap
pub spot_zero : (g : Gap) → spot 0 g ≡ 0
unfolding spot
spot_zero g = mul-zero ((g.from + (0 - 1)) / 0)

pub spot-nothing : (step to : ℕ) → spot step (record { from = 0; to = to }) ≡ 0
unfolding spot
spot-nothing zero to = refl
spot-nothing (suc s) to =
    let h : 0 + (suc s - 1) < suc s = omega arith in
    rw (div-eq_of_lt h) (zero-mul (suc s))

-- the first multiple from a place on
pub first_is : (x y m : ℕ) → 0 < y → x ≤ m → m < x + y → m % y ≡ 0 → m ≡ (x + (y - 1)) / y * y
first_is x y m h low high e =
    let k : m / y * y ≡ m = omega (arith, div-add-mod m y) in
    sym (ap (λ (n : ℕ). n * y) (div-eq_of_lt-le {k = m / y} y {m = x + (y - 1)} (omega arith) (omega arith)) ∙ k)

-- ---- laws: the gap from place i on, as the code finds it
module _ (step q B : ℕ) (objects : List Object) (i : ℕ) where
  abbrev takes : Bool
  takes = starts q objects i && fits step B (gap_from q objects i)

  pub no_start : (to : ℕ) → to ≡ next q objects i → to ≤ i → None ≡ candidate step q objects B i
  unfolding candidate
  no_start to e h = rw (le-ltb i (next q objects i) (omega arith), and-false (free objects i)) refl

  pub not_free : (v : Bool) → v ≡ free objects i → v ≡ false → None ≡ candidate step q objects B i
  unfolding candidate
  not_free v e h = rw (sym e ∙ h) refl

  pub no_room : (to start : ℕ) → to ≡ next q objects i → start ≡ (i + (step - 1)) / step * step → to < start + B
      → None ≡ candidate step q objects B i
  unfolding candidate spot
  no_room to start e p h = rw (lt-leb ((i + (step - 1)) / step * step + B) (next q objects i) (omega arith), and-false (starts q objects i)) refl

  pub room : (to start : ℕ) → to ≡ next q objects i → start ≡ (i + (step - 1)) / step * step → i < to → free objects i ≡ true
      → start + B ≤ to → Some (record { from = i; to = to; start = start }) ≡ candidate step q objects B i
  unfolding candidate spot
  room to start e p m f h =
      rw (lt-ltb i (next q objects i) (omega arith), le-leb ((i + (step - 1)) / step * step + B) (next q objects i) (omega arith), f, e, p) refl

  -- ---- laws: one step of the pass
  -- there is no such gap
  pub passed : (held : Held) → None ≡ candidate step q objects B i → held ≡ tried step q objects B held i
  unfolding candidate tried
  passed held = go takes
    where
      go : (t : Bool) → ◌≡◌ {A = std.Option code.Gap} None (cond t (Some (placed step (gap_from q objects i))) None)
          → held ≡ cond t (better_of held (gap_from q objects i)) held
      go true k = cc
      go false k = refl

  -- a place from the quarter's end on starts none
  pub passed_far : (held : Held) → q ≤ i → held ≡ tried step q objects B held i
  passed_far held h = passed held (no_start (next q objects i) refl (omega (arith, next_le q objects i)))

  -- there is one, and none so far; the best so far stays; it is the best now
  module _ (gap : code.Gap) (k : Some gap ≡ candidate step q objects B i) where
    first : Some gap ≡ placed_option step (tried step q objects B none i)
    unfolding candidate tried
    first = go takes k
      where
        go : (t : Bool) → Some gap ≡ cond t (Some (placed step (gap_from q objects i))) None
            → Some gap ≡ placed_option step (cond t (some (gap_from q objects i)) none)
        go true k = k
        go false k = cc

    lost : (other : Gap) → false ≡ better (gap_of gap) other
        → Some (placed step other) ≡ placed_option step (tried step q objects B (some other) i)
    unfolding candidate tried
    lost other w = go takes k
      where
        go : (t : Bool) → Some gap ≡ cond t (Some (placed step (gap_from q objects i))) None
            → Some (placed step other) ≡ placed_option step (cond t (better_of (some other) (gap_from q objects i)) (some other))
        go true k =
            let e : gap ≡ placed step (gap_from q objects i) = cc in
            rw (ap (λ (g : code.Gap). better (gap_of g) other) (sym e) ∙ sym w) refl
        go false k = refl

    won : (other : Gap) → true ≡ better (gap_of gap) other
        → Some gap ≡ placed_option step (tried step q objects B (some other) i)
    unfolding candidate tried
    won other w = go takes k
      where
        go : (t : Bool) → Some gap ≡ cond t (Some (placed step (gap_from q objects i))) None
            → Some gap ≡ placed_option step (cond t (better_of (some other) (gap_from q objects i)) (some other))
        go true k =
            let e : gap ≡ placed step (gap_from q objects i) = cc in
            rw (ap (λ (g : code.Gap). better (gap_of g) other) (sym e) ∙ sym w) k
        go false k = cc

    -- what the best so far was, in the code's words
    module _ (best : std.Option code.Gap) where
      pub gap_first : best ≡ None → (held : Held) → best ≡ placed_option step held
          → Some gap ≡ placed_option step (tried step q objects B held i)
      gap_first n none e = first
      gap_first n (some h) e = cc

      pub gap_lost : (other : code.Gap) → best ≡ Some other → false ≡ better (gap_of gap) (gap_of other)
          → (held : Held) → best ≡ placed_option step held → Some other ≡ placed_option step (tried step q objects B held i)
      gap_lost other o w none e = cc
      gap_lost other o w (some h) e =
          let p : other ≡ placed step h = cc in
          ap (λ (g : code.Gap). Some g) p ∙ lost h (w ∙ ap (λ (g : code.Gap). better (gap_of gap) (gap_of g)) p)

      pub gap_won : (other : code.Gap) → best ≡ Some other → true ≡ better (gap_of gap) (gap_of other)
          → (held : Held) → best ≡ placed_option step held → Some gap ≡ placed_option step (tried step q objects B held i)
      gap_won other o w none e = cc
      gap_won other o w (some h) e =
          let p : other ≡ placed step h = cc in
          won h (w ∙ ap (λ (g : code.Gap). better (gap_of gap) (gap_of g)) p)

-- ---- laws: the pass, when n objects have been looked at
module _ (step q B : ℕ) (objects : List Object) where
  abbrev pub pass_to : ℕ → Held
  pass_to n = fold (λ best (a : Object). tried step q objects B best (end_of a)) (tried step q objects B none 0) (take n objects)

  module _ (n start size : ℕ) (h : n < length objects) (s : start ≡ get_or (map Object.start objects) n 0)
      (z : size ≡ get_or (map Object.size objects) n 0) where
    pub pass_on : pass_to (n + 1) ≡ tried step q objects B (pass_to n) (start + size)
    pass_on =
        fold-take (λ best (a : Object). tried step q objects B best (end_of a)) (tried step q objects B none 0) objects n no_object h
        ∙ ap (tried step q objects B (pass_to n)) at
      where
        at : end_of (get_or objects n no_object) ≡ start + size
        at =
            let e = get_or-map Object.start objects n no_object 0 h in
            let f = get_or-map Object.size objects n no_object 0 h in
            omega arith

  pub pass_all : (n : ℕ) → length objects ≤ n → pass_to n ≡ chosen step q objects B
  unfolding chosen
  pass_all n h = rw (take_all n objects h) refl

-- ---- laws: the place in the best gap
pub start_of : (step : ℕ) (best : Held) (r : std.Option ℕ) → r ≡ option_map code.Gap.start (placed_option step best)
    → option_of r ≡ Option.map (spot step) best
start_of step none r e = ap (λ (o : std.Option ℕ). option_of o) e
start_of step (some g) r e = ap (λ (o : std.Option ℕ). option_of o) e
