-- Document 01, operation 5, and document 02, change 3: where a new area (extent) starts, in the documents' words and as a
-- computation. That both agree, over any step from 1, is proved in proofs/Gaps.antt and proofs/Placing.antt.
-- q: the quarter. B: the new area's size. Starts count from the quarter's start.
use Rattle.std.specs.Prelude.{Bool, ◌&&◌, ◌||◌, cond, ◌≡◌, ◌⊎◌, ℕ, ◌+◌, ◌-◌, ◌*◌, ◌/◌, ◌≤◌, ◌<◌, min, leb}
use Rattle.std.proofs.Math.Option
use Rattle.std.proofs.Math.Option.{Option, none, some}
use mathlib.Core.List.{List, [], ◌∷◌, map, Memᴰ}
use Rattle.lemmas.specs.Tests.{◌under◌, ◌is◌}
use Rattle.lemmas.specs.Lists.{every, keep}
use Rattle.rules.specs.declared.Object.{Object}

-- ---- in the documents' words
-- byte i of the quarter is in an area
abbrev pub Taken : List Object → ℕ → Type 0
Taken objects i = (a : Object) × Memᴰ a objects × (a.start ≤ i) × (i < a.start + a.size)

-- the bytes from `from` up to `to`
pub record Gap : Type 0 where
  pub from : ℕ
  pub to : ℕ

-- "A gap is a run of the quarter's bytes in no area that can't be lengthened at either end"
pub record IsGap (q : ℕ) (objects : List Object) (g : Gap) : Type 0 where
  pub run : g.from < g.to
  pub inside : g.to ≤ q
  pub free : (i : ℕ) → g.from ≤ i → i < g.to → Taken objects i → ⊥
  pub left : (g.from ≡ 0) ⊎ ((i : ℕ) × (i + 1 ≡ g.from) × Taken objects i)
  pub right : (g.to ≡ q) ⊎ Taken objects g.to

-- "a new area now starts at a multiple of 16 from the quarter's start". Before change 3 it was any byte, a step of 1
abbrev pub extent_step : ℕ
extent_step = 16

-- s is a multiple of the step
abbrev pub Multiple : ℕ → ℕ → Type 0
Multiple step s = (k : ℕ) × (k * step ≡ s)

-- "In a gap the place is the first such multiple": s is the first from the gap's start on
pub record FirstMultiple (step : ℕ) (g : Gap) (s : ℕ) : Type 0 where
  pub multiple : Multiple step s
  pub behind : g.from ≤ s
  pub first : (t : ℕ) → Multiple step t → g.from ≤ t → s ≤ t

-- "and the gap fits if B bytes remain from there"
abbrev pub Fits : ℕ → ℕ → Gap → Type 0
Fits step B g = (s : ℕ) × FirstMultiple step g s × (s + B ≤ g.to)

abbrev pub width : Gap → ℕ
width g = g.to - g.from

-- g is no worse than h: smaller, or as small and not of a higher start
abbrev pub NoWorse : Gap → Gap → Type 0
NoWorse g h = (width g < width h) ⊎ ((width g ≡ width h) × (g.from ≤ h.from))

-- Document 01: "The area starts at the start of the smallest gap of at least B bytes, lowest start among equals". Change 3:
-- "The choice is still the smallest gap that fits, lowest start among equals". Both go by the whole gap, from its own start
pub record Chosen (step q : ℕ) (objects : List Object) (B s : ℕ) : Type 0 where
  pub gap : Gap
  pub is_gap : IsGap q objects gap
  pub place : FirstMultiple step gap s
  pub fits : s + B ≤ gap.to
  pub least : (h : Gap) → IsGap q objects h → Fits step B h → NoWorse gap h

-- "no gap fits": row 20
abbrev pub NoGap : ℕ → ℕ → List Object → ℕ → Type 0
NoGap step q objects B = (g : Gap) → IsGap q objects g → Fits step B g → ⊥

-- ---- as a computation
-- byte i is in no area
unfoldable pub free : List Object → ℕ → Bool
free objects i = every (λ (a : Object). i under a.start || leb (a.start + a.size) i) objects

-- the first start of an area from i on, or else the quarter's end
abbrev pub nearer : ℕ → ℕ → Object → ℕ
nearer i end a = cond (leb i a.start) (min a.start end) end

unfoldable pub next : ℕ → List Object → ℕ → ℕ
next q [] i = q
next q (a ∷ objects) i = next (nearer i q a) objects i

-- a gap starts at the quarter's start or where an area ends, at a byte that is in no area, and ends at the next area
abbrev pub gap_from : ℕ → List Object → ℕ → Gap
gap_from q objects i = record { from = i; to = next q objects i }

abbrev pub starts : ℕ → List Object → ℕ → Bool
starts q objects i = free objects i && i under next q objects i

unfoldable pub gaps : ℕ → List Object → List Gap
gaps q objects =
    map (gap_from q objects) (keep (starts q objects) (0 ∷ map (λ (a : Object). a.start + a.size) objects))

-- where in a gap an area starts: the first multiple of the step
unfoldable pub spot : ℕ → Gap → ℕ
spot step g = (g.from + (step - 1)) / step * step

-- B bytes remain from there
abbrev pub fits : ℕ → ℕ → Gap → Bool
fits step B g = leb (spot step g + B) g.to

-- the smaller gap is the better one, the lower start among equals
unfoldable pub better : Gap → Gap → Bool
better g h = width g under width h || (width g is width h && g.from under h.from)

abbrev pub better_of : Option Gap → Gap → Option Gap
better_of none g = some g
better_of (some h) g = some (cond (better g h) g h)

-- the best of the gaps and one that is held already
unfoldable pub best_of : Option Gap → List Gap → Option Gap
best_of held [] = held
best_of held (g ∷ gs) = best_of (better_of held g) gs

-- the start of the new area; none: row 20
unfoldable pub best_fit : ℕ → ℕ → List Object → ℕ → Option ℕ
best_fit step q objects B = Option.map (spot step) (best_of none (keep (fits step B) (gaps q objects)))
