-- Document 02, change 1, the program `report`: what it prints. "Line foremen want grants and refusals per partition."
-- l: calls and their answers, in order. a: one of them.
use Rattle.std.specs.Prelude.{◌≡◌, true, false, ◌&&◌, cond, ◌⊎◌, ℕ, zero, suc, ◌+◌, ◌*◌, ◌/◌, ◌%◌, ◌≤◌, ◌<◌, length}
use mathlib.Core.List.{List, [], ◌∷◌, ◌++◌, Memᴰ, map}
use Rattle.lemmas.specs.Lists.{keep}
use Rattle.lemmas.specs.Tests.{◌is◌, ◌over◌, ◌under◌}
use Rattle.rules.specs.Frame.{fields}
use Rattle.rules.specs.Gate.{Call}
use Rattle.rules.specs.Demands.{State}
use Rattle.rules.specs.Program.{AnsweredCall, answered, calls_in, decimal, formatted, most_frame, reply_size}

-- ---- where a call counts
-- "`none`, which comes after partition 3"
abbrev pub none : ℕ
none = 4

-- "Rows 2 to 4 count under `none`", as row 1 would, which the program can't meet: what such a frame says of its partition
-- is not known to be one. Every other call counts under its credential's partition.
abbrev pub place_of : ℕ → ℕ → ℕ
place_of row partition = cond ((row over 0) && (row under 5)) none partition

unfoldable pub counts_under : AnsweredCall → ℕ
counts_under a = place_of a.row (fields a.frame).cred.partition

-- ---- the counts: how many of the calls count under a place with a row
unfoldable pub count_of : ℕ → ℕ → List AnsweredCall → ℕ
count_of place row l = length (keep (λ (a : AnsweredCall). (counts_under a is place) && (a.row is row)) l)

-- partitions 0 to 3 and `none`; the rows of documents 01 and 02, 0 to 41
abbrev pub places : ℕ
places = 5

abbrev pub rows_of_place : ℕ
rows_of_place = 42

abbrev pub counter_count : ℕ
counter_count = places * rows_of_place

-- a counter for each, place by place: the one at i is of place i / 42 and row i % 42. k of them from the one at i on
unfoldable pub counters_from : ℕ → ℕ → List AnsweredCall → List ℕ
counters_from zero i l = []
counters_from (suc k) i l = count_of (i / rows_of_place) (i % rows_of_place) l ∷ counters_from k (i + 1) l

unfoldable pub counters : List AnsweredCall → List ℕ
counters l = counters_from counter_count 0 l

-- ---- what is printed
-- "for each nonzero count: partition, row (0 for a grant), count"
pub record Count : Type 0 where
  pub place : ℕ
  pub row : ℕ
  pub count : ℕ

-- of the counters from the one at i on
unfoldable pub counts_from : ℕ → List ℕ → List Count
counts_from i [] = []
counts_from i (n ∷ ns) =
    elim (n is 0) [
      | true ↦ counts_from (i + 1) ns
      | false ↦ record { place = i / rows_of_place; row = i % rows_of_place; count = n } ∷ counts_from (i + 1) ns
    ]

unfoldable pub counts_in : List AnsweredCall → List Count
counts_in l = counts_from 0 (counters l)

abbrev pub place_name : ℕ → List ℕ
place_name place = cond (place is none) (110 ∷ 111 ∷ 110 ∷ 101 ∷ []) (decimal place)

abbrev pub count_line : Count → List ℕ
count_line c = place_name c.place ++ (32 ∷ (decimal c.row ++ (32 ∷ (decimal c.count ++ (10 ∷ [])))))

unfoldable pub count_lines : List Count → List ℕ
count_lines [] = []
count_lines (c ∷ cs) = count_line c ++ count_lines cs

-- "The last line is `calls` and the total."
abbrev pub total : ℕ → List ℕ
total n = 99 ∷ 97 ∷ 108 ∷ 108 ∷ 115 ∷ 32 ∷ (decimal n ++ (10 ∷ []))

unfoldable pub report_of : List AnsweredCall → List ℕ
report_of l = count_lines (counts_in l) ++ total (length l)

-- "A program reads the same input as `gate`": the calls are `program`'s, from the same start
unfoldable pub report : List ℕ → List ℕ
report input = report_of (answered formatted (calls_in most_frame reply_size input))

-- ---- what holds of them, of every list of calls put to any drive and medium s. Proved in proofs/: `counts`.
unfoldable pub sum_of : List ℕ → ℕ
sum_of [] = 0
sum_of (n ∷ ns) = n + sum_of ns

-- "in rising order": of two lines the earlier has the lower place, or the same and the lower row
abbrev pub Before : Count → Count → Type 0
Before c d = (c.place < d.place) ⊎ ((c.place ≡ d.place) × (c.row < d.row))

unfoldable pub Rising : List Count → Type 0
Rising [] = Unit {0}
Rising (c ∷ cs) = ((d : Count) → Memᴰ d cs → Before c d) × Rising cs

pub record Counts (s : State) (calls : List Call) : Type 0 where
  -- "All counts add up to the calls", those that are printed as well as all counters
  pub sum : sum_of (map Count.count (counts_in (answered s calls))) ≡ length calls
  pub counted : sum_of (counters (answered s calls)) ≡ length calls
  -- each printed count is the number of calls of its place and row, and none is 0
  pub exact : (c : Count) → Memᴰ c (counts_in (answered s calls))
      → (c.count ≡ count_of c.place c.row (answered s calls)) × (0 < c.count) × (c.place ≤ none)
  -- "a line for each nonzero count"
  pub complete : (place row : ℕ) → 0 < count_of place row (answered s calls)
      → Memᴰ (record { place = place; row = row; count = count_of place row (answered s calls) })
      (counts_in (answered s calls))
  pub rising : Rising (counts_in (answered s calls))
