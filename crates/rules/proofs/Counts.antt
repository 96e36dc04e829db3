-- Document 02, change 1: the counts of a report add up to the calls, are exact and complete, and rise (`counts`).
-- By the counters: each is the number of calls of its place and row, and every call has one of them.
-- l: calls and their answers. a: one of them. ns: the counters from the one at i on.
use mathlib.Core.Path.{◌∙◌, ◌≡◌, ap, refl, subst, sym}
use mathlib.Core.Logic.{◌⊎◌, inl, inr}
use mathlib.Core.Bool.{◌&&◌, Bool, cond, false, true}
use mathlib.Core.List.{[], ◌++◌, ◌∷◌, List, Memᴰ, map}
use Prim.Native.Nat.{◌%◌, ◌*◌, ◌+◌, ◌/◌, ◌<◌, ◌≤◌, suc, zero, ℕ}
use native.Mathlib.Decide.{dec_lt, ℕ_discrete}
use native.Mathlib.Omega.{arith}
use lib.Dec.{leb}
use lib.ListN.{get_or, length}
use borrow.Author.Tests.{eq-eqb, eqb-false, eqb-true, le-leb, leb-true, lt-ltb, ltb-true, ne_eqb}
use Rattle.lemmas.specs.ListLaws.{every-member, keep-passes, member-keep}
use Rattle.lemmas.specs.Lists.{every, keep}
use Rattle.lemmas.specs.RowTable.{applies, first_row, line, none_applies, Row, row_below, rows_met}
use Rattle.lemmas.specs.Tests.{◌is◌, ◌over◌, ◌under◌, and_l, and_r, both}
use Rattle.rules.specs.Demands.{answer, State, step}
use Rattle.rules.specs.Drive.{Drive, refresh}
use Rattle.rules.specs.Frame.{Fields, fields}
use Rattle.rules.specs.Gate.{Call, gate}
use Rattle.rules.specs.Program.{answered, AnsweredCall}
use Rattle.rules.specs.Report.{
  Before,
  Count,
  counter_count,
  counters,
  counters_from,
  count_of,
  Counts,
  counts_from,
  counts_in,
  counts_under,
  none,
  place_of,
  Rising,
  rows_of_place,
  sum_of,
}
use Rattle.rules.specs.Rows.{drive_rows, frame_rows, gate_rows, row1, row2, row3, row4, row5, row6, rows}
use Rattle.rules.specs.Scope.{drive_scope}
use Rattle.rules.proofs.Answers.{demand1, gate-row}
use Rattle.rules.proofs.Clear.{low_partition}

-- ---- where a row counts: rows 1 to 4 under `none`, and a call of one of the four partitions at most there
early_none : (row partition : ℕ) → 0 < row → row ≤ 4 → place_of row partition ≡ none
early_none zero partition h l = absurd (omega arith)
early_none (suc zero) partition h l = refl
early_none (suc (suc zero)) partition h l = refl
early_none (suc (suc (suc zero))) partition h l = refl
early_none (suc (suc (suc (suc zero)))) partition h l = refl
early_none (suc (suc (suc (suc (suc row))))) partition h l = absurd (omega arith)

low_place : (row partition : ℕ) → partition < 4 → place_of row partition ≤ none
low_place row partition h = go ((row over 0) && (row under 5))
  where
    go : (b : Bool) → cond b none partition ≤ none
    go true = omega arith
    go false = omega arith

-- ---- every call has a counter: its row is of the table, and where that is 0 or over 4 its partition is one of the four
module _ (d : Drive) (m : List ℕ) (c : Call) where
  abbrev x : Fields
  x = fields c.frame

  abbrev early : List Row
  early =
      line 1 (row1 d m)
      ∷ line 2 (row2 c.frame)
      ∷ line 3 (row3 x.cred x.req)
      ∷ line 4 (row4 x.cred x.req)
      ∷ []

  abbrev later : List Row
  later =
      line 5 (row5 x.req c.frame)
      ∷ line 6 (row6 x.cred x.req)
      ∷ drive_rows (drive_scope (refresh c.clock d) x.cred) m x c.space

  table_parted : (gate d m c).row ≡ first_row (early ++ later)
  unfolding rows frame_rows
  table_parted = gate-row d m c

  -- a row up to 4 was met, or row 4 does not apply
  place_low : place_of (gate d m c).row x.cred.partition ≤ none
  unfolding applies every
  place_low = go (ℕ_discrete (first_row early) 0)
    where
      go : Dec (first_row early ≡ 0) → place_of (gate d m c).row x.cred.partition ≤ none
      go (yes e) = low_place (gate d m c).row x.cred.partition (low_partition x (none_applies early refl e 4))
      go (no e) =
          let r : (gate d m c).row ≡ first_row early = table_parted ∙ rows_met early later e in
          let low : first_row early ≤ 4 = row_below 4 early refl in
          let q = early_none (gate d m c).row x.cred.partition (omega (arith, r, e)) (omega (arith, r, low)) in
          omega (arith, q)

-- a call that has a counter: the place and the row are of the table
abbrev pub countable : AnsweredCall → Bool
countable a = leb (counts_under a) none && (a.row under rows_of_place)

pub one_countable : (s : State) (c : Call)
    → countable (record { frame = c.frame; row = (answer s c).row; length = (answer s c).length }) ≡ true
unfolding counts_under answer every
one_countable s c =
    both
    (le-leb (place_of (answer s c).row (fields c.frame).cred.partition) none (place_low s.drive s.medium c))
    (of_the_report (demand1 s.drive s.medium c).row)
  where
    of_the_report : ((answer s c).row ≡ 0) ⊎ Memᴰ (answer s c).row gate_rows → ((answer s c).row under rows_of_place) ≡ true
    of_the_report (inl z) = lt-ltb (answer s c).row rows_of_place (omega (arith, z))
    of_the_report (inr k) = every-member (λ (n : ℕ). n under rows_of_place) gate_rows (answer s c).row refl k

pub all_countable : (s : State) (calls : List Call) → every countable (answered s calls) ≡ true
unfolding answered every
all_countable s [] = refl
all_countable s (c ∷ cs) = both (one_countable s c) (all_countable (step s c) cs)

-- ---- the counters
-- the one of a call
abbrev pub counter_of : AnsweredCall → ℕ
counter_of a = counts_under a * rows_of_place + a.row

pub length-counters : (k i : ℕ) (l : List AnsweredCall) → length (counters_from k i l) ≡ k
unfolding counters_from
length-counters zero i l = refl
length-counters (suc k) i l = ap suc (length-counters k (i + 1) l)

-- the one at j of those from i on
pub nth_counter : (k i j : ℕ) (l : List AnsweredCall) → j < k
    → get_or (counters_from k i l) j 0 ≡ count_of ((i + j) / rows_of_place) ((i + j) % rows_of_place) l
unfolding counters_from
nth_counter zero i j l h = absurd (omega arith)
nth_counter (suc k) i zero l h =
    let e : i ≡ i + 0 = omega arith in ap (λ (n : ℕ). count_of (n / rows_of_place) (n % rows_of_place) l) e
nth_counter (suc k) i (suc j) l h =
    nth_counter k (i + 1) j l (omega arith)
    ∙ (let e : i + 1 + j ≡ i + suc j = omega arith in ap (λ (n : ℕ). count_of (n / rows_of_place) (n % rows_of_place) l) e)

-- a call more adds one to its own counter
abbrev pub counts? : ℕ → ℕ → AnsweredCall → Bool
counts? place row a = (counts_under a is place) && (a.row is row)

pub count_more : (place row : ℕ) (a : AnsweredCall) (l : List AnsweredCall)
    → count_of place row (a ∷ l) ≡ cond (counts? place row a) (suc (count_of place row l)) (count_of place row l)
unfolding count_of keep
count_more place row a l = go (counts? place row a)
  where
    go : (b : Bool) → length (cond b (a ∷ keep (counts? place row) l) (keep (counts? place row) l))
        ≡ cond b (suc (length (keep (counts? place row) l))) (length (keep (counts? place row) l))
    go true = refl
    go false = refl

module _ (a : AnsweredCall) (h : countable a ≡ true) where
  pub low_counted : counts_under a ≤ none
  low_counted = leb-true (counts_under a) none (and_l (leb (counts_under a) none) (a.row under rows_of_place) h)

  pub row_small : a.row < rows_of_place
  row_small = ltb-true a.row rows_of_place (and_r (leb (counts_under a) none) (a.row under rows_of_place) h)

  pub own_counter : counter_of a < counter_count
  own_counter = omega (arith, low_counted, row_small)

  pub counts_here : counts? (counter_of a / rows_of_place) (counter_of a % rows_of_place) a ≡ true
  counts_here = both
      (eq-eqb (counts_under a) (counter_of a / rows_of_place) (omega (arith, row_small)))
      (eq-eqb a.row (counter_of a % rows_of_place) (omega (arith, row_small)))

  pub counts_else : (i : ℕ) → (i ≡ counter_of a → ⊥) → counts? (i / rows_of_place) (i % rows_of_place) a ≡ false
  counts_else i ne = go (counts? (i / rows_of_place) (i % rows_of_place) a) refl
    where
      go : (b : Bool) → counts? (i / rows_of_place) (i % rows_of_place) a ≡ b → b ≡ false
      go false e = refl
      go true e =
          let p : counts_under a ≡ i / rows_of_place =
          eqb-true (counts_under a) (i / rows_of_place)
          (and_l (counts_under a is i / rows_of_place) (a.row is i % rows_of_place) e) in
          let r : a.row ≡ i % rows_of_place =
          eqb-true a.row (i % rows_of_place) (and_r (counts_under a is i / rows_of_place) (a.row is i % rows_of_place) e) in
          let same : i ≡ counter_of a = omega arith in
          absurd (ne same)

  -- ---- the sum of the counters is one more where the call's own is among them
  sum-passed : (k i : ℕ) (l : List AnsweredCall) → counter_of a < i
      → sum_of (counters_from k i (a ∷ l)) ≡ sum_of (counters_from k i l)
  unfolding sum_of counters_from
  sum-passed zero i l p = refl
  sum-passed (suc k) i l p =
      rw (
        count_more (i / rows_of_place) (i % rows_of_place) a l,
        counts_else i (λ e. absurd (omega arith)),
        sum-passed k (i + 1) l (omega arith),
      ) refl

  sum-within : (k i : ℕ) (l : List AnsweredCall) → i ≤ counter_of a → counter_of a < i + k
      → sum_of (counters_from k i (a ∷ l)) ≡ suc (sum_of (counters_from k i l))
  unfolding sum_of counters_from
  sum-within zero i l p q = absurd (omega arith)
  sum-within (suc k) i l p q = go (ℕ_discrete i (counter_of a)) (λ r. sum-within k (i + 1) l r (omega arith))
    where
      go : Dec (i ≡ counter_of a)
          → (i + 1 ≤ counter_of a → sum_of (counters_from k (i + 1) (a ∷ l)) ≡ suc (sum_of (counters_from k (i + 1) l)))
          → count_of (i / rows_of_place) (i % rows_of_place) (a ∷ l) + sum_of (counters_from k (i + 1) (a ∷ l))
          ≡ suc (count_of (i / rows_of_place) (i % rows_of_place) l + sum_of (counters_from k (i + 1) l))
      go (yes e) ih =
          let t : counts? (i / rows_of_place) (i % rows_of_place) a ≡ true =
          subst (λ (n : ℕ). counts? (n / rows_of_place) (n % rows_of_place) a ≡ true) (sym e) counts_here in
          rw (count_more (i / rows_of_place) (i % rows_of_place) a l, t, sum-passed k (i + 1) l (omega arith)) (omega arith)
      go (no e) ih =
          rw (count_more (i / rows_of_place) (i % rows_of_place) a l, counts_else i e, ih (omega arith)) (omega arith)

sum_none : (k i : ℕ) → sum_of (counters_from k i []) ≡ 0
unfolding sum_of counters_from count_of keep
sum_none zero i = refl
sum_none (suc k) i = ap (λ (n : ℕ). 0 + n) (sum_none k (i + 1))

pub sum-counters : (l : List AnsweredCall) → every countable l ≡ true → sum_of (counters l) ≡ length l
unfolding every counters
sum-counters [] h = sum_none counter_count 0
sum-counters (a ∷ l) h =
    let t : countable a ≡ true = and_l (countable a) (every countable l) h in
    sum-within a t counter_count 0 l (omega arith) (own_counter a t)
    ∙ ap suc (sum-counters l (and_r (countable a) (every countable l) h))

-- ---- what is printed of them
-- the counts of the nonzero counters add up to all
sum-counts : (i : ℕ) (ns : List ℕ) → sum_of (map Count.count (counts_from i ns)) ≡ sum_of ns
unfolding sum_of counts_from
sum-counts i [] = refl
sum-counts i (n ∷ ns) = go (n is 0) refl (sum-counts (i + 1) ns)
  where
    go : (b : Bool) → (n is 0) ≡ b → sum_of (map Count.count (counts_from (i + 1) ns)) ≡ sum_of ns
        → sum_of (map Count.count (elim b [
          | true ↦ counts_from (i + 1) ns
          | false ↦ record { place = i / rows_of_place; row = i % rows_of_place; count = n } ∷ counts_from (i + 1) ns
        ])) ≡ n + sum_of ns
    go true e ih = ih ∙ (let z : n ≡ 0 = eqb-true n 0 e in omega arith)
    go false e ih = ap (λ (k : ℕ). n + k) ih

-- the count of a counter
abbrev count_at : ℕ → ℕ → Count
count_at i n = record { place = i / rows_of_place; row = i % rows_of_place; count = n }

-- a nonzero counter is printed
listed : (i j : ℕ) (ns : List ℕ) → j < length ns → 0 < get_or ns j 0
    → Memᴰ (count_at (i + j) (get_or ns j 0)) (counts_from i ns)
unfolding counts_from
listed i j [] h p = absurd (omega arith)
listed i zero (n ∷ ns) h p =
    rw (ne_eqb n 0 (λ e. absurd (omega arith)), counts_from)
    (mathlib.Core.List.Memᴰ.head (let e : i + 0 ≡ i = omega arith in ap (λ (k : ℕ). count_at k n) e))
listed i (suc j) (n ∷ ns) h p =
    go (n is 0)
    (let e : i + 1 + j ≡ i + suc j = omega arith in
    subst (λ (k : ℕ). Memᴰ (count_at k (get_or ns j 0)) (counts_from (i + 1) ns)) e
    (listed (i + 1) j ns (omega arith) p))
  where
    go : (b : Bool) → Memᴰ (count_at (i + suc j) (get_or ns j 0)) (counts_from (i + 1) ns)
        → Memᴰ (count_at (i + suc j) (get_or ns j 0)) (elim b [
          | true ↦ counts_from (i + 1) ns
          | false ↦ record { place = i / rows_of_place; row = i % rows_of_place; count = n } ∷ counts_from (i + 1) ns
        ])
    go true k = k
    go false k = mathlib.Core.List.Memᴰ.tail k

-- and nothing else is
pub record Printed (i : ℕ) (ns : List ℕ) (c : Count) : Type 0 where
  pub at : ℕ
  pub within : at < length ns
  pub is_it : c ≡ count_at (i + at) (get_or ns at 0)
  pub nonzero : 0 < get_or ns at 0

later_one : (i n : ℕ) (ns : List ℕ) (c : Count) → Printed (i + 1) ns c → Printed i (n ∷ ns) c
later_one i n ns c p = record {
  at = suc p.at;
  within = omega (arith, p.within);
  is_it = p.is_it ∙ (let e : i + 1 + p.at ≡ i + suc p.at = omega arith in
      ap (λ (k : ℕ). count_at k (get_or ns p.at 0)) e);
  nonzero = p.nonzero;
}

printed_at : (i : ℕ) (ns : List ℕ) (c : Count) → Memᴰ c (counts_from i ns) → Printed i ns c
unfolding counts_from
printed_at i [] c k = absurd (mathlib.Core.List.Memᴰ.not-nil k)
printed_at i (n ∷ ns) c k = go (n is 0) refl (λ k. printed_at (i + 1) ns c k) k
  where
    first : (n is 0) ≡ false → (Memᴰ c (counts_from (i + 1) ns) → Printed (i + 1) ns c)
        → Memᴰ c (record { place = i / rows_of_place; row = i % rows_of_place; count = n } ∷ counts_from (i + 1) ns)
        → Printed i (n ∷ ns) c
    first z ih (mathlib.Core.List.Memᴰ.head e) = record {
      at = 0;
      within = omega arith;
      is_it = e ∙ (let q : i ≡ i + 0 = omega arith in ap (λ (k : ℕ). count_at k n) q);
      nonzero = omega (arith, eqb-false n 0 z);
    }
    first z ih (mathlib.Core.List.Memᴰ.tail k) = later_one i n ns c (ih k)

    go : (b : Bool) → (n is 0) ≡ b → (Memᴰ c (counts_from (i + 1) ns) → Printed (i + 1) ns c)
        → Memᴰ c (elim b [
          | true ↦ counts_from (i + 1) ns
          | false ↦ record { place = i / rows_of_place; row = i % rows_of_place; count = n } ∷ counts_from (i + 1) ns
        ])
        → Printed i (n ∷ ns) c
    go true z ih k = later_one i n ns c (ih k)
    go false z ih k = first z ih k

-- they rise
before : (i j n m : ℕ) → i < j → Before (count_at i n) (count_at j m)
before i j n m h = go (dec_lt (i / rows_of_place) (j / rows_of_place))
  where
    go : Dec (i / rows_of_place < j / rows_of_place) → Before (count_at i n) (count_at j m)
    go (yes l) = inl l
    go (no l) = inr (omega arith, omega arith)

rising_from : (i : ℕ) (ns : List ℕ) → Rising (counts_from i ns)
unfolding Rising counts_from
rising_from i [] = tt
rising_from i (n ∷ ns) = go (n is 0) (rising_from (i + 1) ns)
  where
    go : (b : Bool) → Rising (counts_from (i + 1) ns) → Rising (elim b [
      | true ↦ counts_from (i + 1) ns
      | false ↦ record { place = i / rows_of_place; row = i % rows_of_place; count = n } ∷ counts_from (i + 1) ns
    ])
    go true r = r
    go false r = (
      λ d k.
          let p = printed_at (i + 1) ns d k in
          subst (Before (count_at i n)) (sym p.is_it) (before i (i + 1 + p.at) n (get_or ns p.at 0) (omega arith)),
      r,
    )

-- a place and a row that some call has
counted-call : (place row : ℕ) (l : List AnsweredCall) → every countable l ≡ true → 0 < count_of place row l
    → (place ≤ none) × (row < rows_of_place)
unfolding count_of every
counted-call place row l h p = go (keep (counts? place row) l) refl p
  where
    go : (ks : List AnsweredCall) → keep (counts? place row) l ≡ ks → 0 < length ks → (place ≤ none) × (row < rows_of_place)
    go [] e q = absurd (omega arith)
    go (a ∷ ks) e q =
        let k : Memᴰ a (keep (counts? place row) l) =
        subst (Memᴰ a) (sym e) (mathlib.Core.List.Memᴰ.head refl) in
        let t : counts? place row a ≡ true = keep-passes (counts? place row) l a k in
        let c : countable a ≡ true = every-member countable l a h (member-keep (counts? place row) l a k) in
        let same_place : counts_under a ≡ place =
        eqb-true (counts_under a) place (and_l (counts_under a is place) (a.row is row) t) in
        let same_row : a.row ≡ row = eqb-true a.row row (and_r (counts_under a is place) (a.row is row) t) in
        (omega (arith, low_counted a c), omega (arith, row_small a c))

-- ---- all of it
length-answered : (s : State) (calls : List Call) → length (answered s calls) ≡ length calls
unfolding answered
length-answered s [] = refl
length-answered s (c ∷ cs) = ap suc (length-answered (step s c) cs)

pub counts : (s : State) (calls : List Call) → Counts s calls
unfolding counts_in counters
counts s calls = record {
  sum = sum-counts 0 (counters l) ∙ all;
  counted = all;
  exact = λ c k.
      let p = printed_at 0 (counters l) c k in
      let w : p.at < counter_count = omega (arith, p.within, length-counters counter_count 0 l) in
      let n : get_or (counters l) p.at 0 ≡ count_of ((0 + p.at) / rows_of_place) ((0 + p.at) % rows_of_place) l =
      nth_counter counter_count 0 p.at l w in
      subst (λ (c : Count). (c.count ≡ count_of c.place c.row l) × (0 < c.count) × (c.place ≤ none))
      (sym p.is_it)
      (n, p.nonzero, omega arith);
  complete = λ place row h.
      let b = counted-call place row l (all_countable s calls) h in
      let j : ℕ = place * rows_of_place + row in
      let w : j < counter_count = omega arith in
      let p : (0 + j) / rows_of_place ≡ place = omega arith in
      let r : (0 + j) % rows_of_place ≡ row = omega arith in
      let n : get_or (counters l) j 0 ≡ count_of place row l =
      nth_counter counter_count 0 j l w
      ∙ ap (λ (k : ℕ). count_of k ((0 + j) % rows_of_place) l) p ∙ ap (λ (k : ℕ). count_of place k l) r in
      subst (λ (c : Count). Memᴰ c (counts_from 0 (counters l)))
      (λ i. record { place = p i; row = r i; count = n i })
      (listed 0 j (counters l) (omega (arith, length-counters counter_count 0 l)) (omega (arith, n)));
  rising = rising_from 0 (counters l);
}
  where
    l : List AnsweredCall
    l = answered s calls

    all : sum_of (counters l) ≡ length calls
    all = sum-counters l (all_countable s calls) ∙ length-answered s calls
