-- Document 01, "Table of cases, proved of the rules themselves": a list, and one theorem over it, `all_right`. Its areas are as
-- change 3 of document 02 has them, with cases at the edges of a step.
use Rattle.std.specs.Prelude.{◌≡◌, refl, Bool, true, false, not, List, [], ◌∷◌, ℕ, ◌+◌, ◌-◌}
use Rattle.std.proofs.Math.Option.{Option, none, some}
use Rattle.lemmas.specs.Tests.{◌is◌}
use Rattle.lemmas.specs.Lists.{every, keep}
use Rattle.rules.specs.declared.Object.{Object}
use Rattle.rules.specs.Drive.{new_high_water}
use Rattle.rules.specs.BestFit.{extent_step, spot, free, next, gaps, better, best_of, best_fit}
use Rattle.rules.specs.Rows.{untimely, expired, out_of_range}

pub data Case : Type 0 where
  -- the step, areas of a quarter of 100, B, the start or none for row 20
  placing : ℕ → List Object → ℕ → Option ℕ → Case
  -- mark, T, whether row 11 applies
  timing : ℕ → ℕ → Bool → Case
  -- mark, expiry, whether row 10 applies
  expiring : ℕ → ℕ → Bool → Case
  -- mark, clock, the new mark
  marking : ℕ → ℕ → ℕ → Case
  -- first, end, A, B, whether row 16 applies
  ranging : ℕ → ℕ → ℕ → ℕ → Bool → Case

abbrev same : Bool → Bool → Bool
same true b = b
same false b = not b

abbrev same_start : Option ℕ → Option ℕ → Bool
same_start none none = true
same_start none (some b) = false
same_start (some a) none = false
same_start (some a) (some b) = a is b

-- the rules say what the case says
pub right : Case → Bool
unfolding best_fit best_of better gaps free next spot keep every
right (placing step areas B start) = same_start (best_fit step 100 areas B) start
right (timing mark T row) = same (untimely mark T) row
right (expiring mark expiry row) = same (expired mark expiry) row
right (marking mark clock new) = new_high_water mark clock is new
right (ranging first end A B row) = same (out_of_range first end A B) row

-- the bytes from a up to and with b
abbrev pub area : ℕ → ℕ → Object
area a b = record { number = 1; version = 1; size = b + 1 - a; start = a }

pub cases : List Case
cases =
    placing extent_step (area 10 29 ∷ area 40 99 ∷ []) 10 (some 0)
    ∷ placing extent_step (area 10 29 ∷ area 40 99 ∷ []) 11 none
    -- "areas 0–19, 25–99 with B = 5 now give row 20"; by the step of document 01 it was start 20
    ∷ placing extent_step (area 0 19 ∷ area 25 99 ∷ []) 5 none
    ∷ placing 1 (area 0 19 ∷ area 25 99 ∷ []) 5 (some 20)
    -- a gap that starts on a multiple, one byte after one, one byte before one
    ∷ placing extent_step (area 0 31 ∷ area 64 99 ∷ []) 32 (some 32)
    ∷ placing extent_step (area 0 31 ∷ area 64 99 ∷ []) 33 none
    ∷ placing extent_step (area 0 32 ∷ area 64 99 ∷ []) 16 (some 48)
    ∷ placing extent_step (area 0 32 ∷ area 64 99 ∷ []) 17 none
    ∷ placing extent_step (area 0 30 ∷ area 64 99 ∷ []) 32 (some 32)
    ∷ placing extent_step (area 0 30 ∷ area 64 99 ∷ []) 33 none
    -- a gap whose first multiple is its end, and one that ends before it
    ∷ placing extent_step (area 0 16 ∷ area 32 99 ∷ []) 1 none
    ∷ placing extent_step (area 0 16 ∷ area 31 99 ∷ []) 1 none
    -- two equal gaps, 40–59 and 80–99: the lower one where it fits, which it does up to 12 bytes from 48 on
    ∷ placing extent_step (area 0 39 ∷ area 60 79 ∷ []) 12 (some 48)
    ∷ placing extent_step (area 0 39 ∷ area 60 79 ∷ []) 13 (some 80)
    -- the smallest gap is 80–99, though of 40–64 fewer bytes remain from 48 on
    ∷ placing extent_step (area 0 39 ∷ area 65 79 ∷ []) 10 (some 80)
    ∷ timing 10000 5000 false
    ∷ timing 10000 15000 false
    ∷ timing 10000 4999 true
    ∷ timing 10000 15001 true
    ∷ expiring 10000 10000 false
    ∷ expiring 10000 9999 true
    ∷ marking 10000 9000 10000
    ∷ ranging 8 16 8 8 false
    ∷ ranging 8 16 16 0 false
    ∷ ranging 8 16 8 9 true
    ∷ ranging 8 16 17 0 true
    ∷ []

pub all_right : every right cases ≡ true
unfolding every cases right
all_right = refl
