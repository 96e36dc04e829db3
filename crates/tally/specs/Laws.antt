-- Laws of counting: counters that count the calls l count l and one more after it; and of the lines: where all of them
-- fit, they are the report's.
use Rattle.std.specs.Prelude.{◌≡◌, Bool, true, ◌||◌, cond, List, [], ◌∷◌, ◌++◌, ℕ, suc, ◌+◌, ◌*◌, ◌/◌, ◌%◌, ◌≤◌, ◌<◌, leb, length, get_or, set, drop, replicate}
use Rattle.std.proofs.Math.Path.{refl}
use Rattle.std.proofs.Common.{sym, ap, ◌∙◌, add-one, arith, length-append, length-set, drop_of_length-le, drop-cons, ext_get_or, get_or-set_same, get_or-set_other}
use Rattle.std.proofs.Math.Bool.{false}
use Rattle.std.proofs.Math.Decide.{dec_lt, ℕ_discrete}
use Rattle.std.proofs.Math.ListN.{get_or-eq_default}
use borrow.Author.Tests.{eq-eqb, eqb-true, ne_eqb, le-leb, lt-leb, le-ltb, leb-false, ltb-false, not-false}
use Rattle.lemmas.specs.Tests.{◌is◌, ◌isnt◌, ◌over◌, or_l, or_r}
use Rattle.lemmas.specs.Lists.{keep, splice}
use Rattle.lemmas.specs.ListLaws.{length-keep}
use Rattle.lemmas.specs.Layout.{splice_none, splice_next}
use Rattle.lemmas.specs.Parts.{length-splice}
use Rattle.lines.specs.Text.{TextPut}
use Rattle.lines.specs.Decimal.{length-count-line}
use Rattle.rules.specs.Frame.{fields}
use Rattle.rules.specs.Program.{AnsweredCall}
use Rattle.rules.specs.Report.{
  none,
  place_of,
  counts_under,
  count_of,
  rows_of_place,
  counter_count,
  counters,
  counters_from,
  counts_from,
  count_line,
  count_lines,
}
use Rattle.rules.proofs.Counts.{
  countable,
  counter_of,
  counts?,
  counts_here,
  counts_else,
  count_more,
  length-counters,
  low_counted,
  nth_counter,
  own_counter,
  row_small,
}
use Rattle.tally.specs.Tally.{most_count, no_counter, counts, counted, counter_text, Put, text_put, counters_put, CountersPut}

-- ---- the counters of no call
pub counters_none : counters [] ≡ replicate counter_count 0
unfolding counters counters_from count_of keep
counters_none = refl

-- ---- the counter at j
pub length_all : (l : List AnsweredCall) → length (counters l) ≡ counter_count
unfolding counters
length_all l = length-counters counter_count 0 l

nth_of_all : (j : ℕ) (l : List AnsweredCall) → j < counter_count
    → get_or (counters l) j 0 ≡ count_of (j / rows_of_place) (j % rows_of_place) l
unfolding counters
nth_of_all j l h =
    nth_counter counter_count 0 j l h
    ∙ (let e : 0 + j ≡ j = omega arith in ap (λ (n : ℕ). count_of (n / rows_of_place) (n % rows_of_place) l) e)

-- is at most the number of calls
count-bound : (place row : ℕ) (l : List AnsweredCall) → count_of place row l ≤ length l
unfolding count_of
count-bound place row l = length-keep (counts? place row) l

pub counter_bound : (j : ℕ) (l : List AnsweredCall) → get_or (counters l) j 0 ≤ length l
counter_bound j l = go (dec_lt j counter_count)
  where
    go : Dec (j < counter_count) → get_or (counters l) j 0 ≤ length l
    go (yes h) = rw (nth_of_all j l h) (count-bound (j / rows_of_place) (j % rows_of_place) l)
    go (no h) =
        let e : get_or (counters l) j 0 ≡ 0 = get_or-eq_default (counters l) 0 {n = j} (omega (arith, length_all l)) in
        omega (arith, e)

-- so that none is full before there are as many calls as a counter can hold
pub not_full : (j : ℕ) (l : List AnsweredCall) → length l < most_count → get_or (counters l) j 0 ≡ most_count → ⊥
not_full j l few e = absurd (omega (arith, e, counter_bound j l))

-- ---- a call more, at the end
count_last : (place row : ℕ) (a : AnsweredCall) (l : List AnsweredCall)
    → count_of place row (l ++ (a ∷ [])) ≡ cond (counts? place row a) (suc (count_of place row l)) (count_of place row l)
count_last place row a [] = count_more place row a []
count_last place row a (b ∷ l) =
    rw (count_more place row b (l ++ (a ∷ [])), count_more place row b l, count_last place row a l)
    (go (counts? place row a) (counts? place row b) (count_of place row l))
  where
    go : (x y : Bool) (n : ℕ)
        → cond y (suc (cond x (suc n) n)) (cond x (suc n) n) ≡ cond x (suc (cond y (suc n) n)) (cond y (suc n) n)
    go true true n = refl
    go true false n = refl
    go false true n = refl
    go false false n = refl

module _ (l : List AnsweredCall) (a : AnsweredCall) (h : countable a ≡ true) where
  counter_here : get_or (counters (l ++ (a ∷ []))) (counter_of a) 0 ≡ get_or (counters l) (counter_of a) 0 + 1
  counter_here =
      let w : counter_of a < counter_count = own_counter a h in
      let t = counts_here a h in
      rw (
        nth_of_all (counter_of a) (l ++ (a ∷ [])) w,
        nth_of_all (counter_of a) l w,
        count_last (counter_of a / rows_of_place) (counter_of a % rows_of_place) a l,
        t,
      )
      (omega arith)

  counter_else : (j : ℕ) → j < counter_count → (j ≡ counter_of a → ⊥)
      → get_or (counters (l ++ (a ∷ []))) j 0 ≡ get_or (counters l) j 0
  counter_else j w ne =
      rw (
        nth_of_all j (l ++ (a ∷ [])) w,
        nth_of_all j l w,
        count_last (j / rows_of_place) (j % rows_of_place) a l,
        counts_else a h j ne,
      )
      refl

  -- the counters with that one more
  abbrev more : List ℕ
  more = set (counters l) (counter_of a) (get_or (counters l) (counter_of a) 0 + 1)

  length_more : length more ≡ counter_count
  length_more = length-set (counters l) (counter_of a) (get_or (counters l) (counter_of a) 0 + 1) ∙ length_all l

  counters_last : more ≡ counters (l ++ (a ∷ []))
  counters_last =
      ext_get_or 0 more (counters (l ++ (a ∷ []))) (length_more ∙ sym (length_all (l ++ (a ∷ []))))
      (λ j w. at j (omega (arith, w, length_more)))
    where
      at : (j : ℕ) → j < counter_count
          → get_or more j 0 ≡ get_or (counters (l ++ (a ∷ []))) j 0
      at j w = go (ℕ_discrete j (counter_of a))
        where
          go : Dec (j ≡ counter_of a)
              → get_or more j 0 ≡ get_or (counters (l ++ (a ∷ []))) j 0
          go (yes e) =
              rw e
              (get_or-set_same (counters l) (counter_of a) (get_or (counters l) (counter_of a) 0 + 1) 0
              (omega (arith, own_counter a h, length_all l))
              ∙ sym counter_here)
          go (no e) =
              get_or-set_other (counters l) (counter_of a) j (get_or (counters l) (counter_of a) 0 + 1) 0 e
              ∙ sym (counter_else j w e)

  -- where its counter is not full, it is counted
  pub counts_more : (get_or (counters l) (counter_of a) 0 ≡ most_count → ⊥)
      → counts (counters l) (place_of a.row (fields a.frame).cred.partition) a.row ≡ true
  unfolding counts_under
  counts_more room = rw (there, ne_eqb (get_or (counters l) (counter_of a) 0) most_count room) refl
    where
      there : no_counter (length (counters l)) (counts_under a) a.row ≡ false
      there = rw (
        eq-eqb (length (counters l)) counter_count (length_all l),
        le-ltb none (counts_under a) (low_counted a h),
        lt-leb rows_of_place a.row (row_small a h),
      )
          refl

  pub counted_more : (get_or (counters l) (counter_of a) 0 ≡ most_count → ⊥)
      → counted (counters l) (place_of a.row (fields a.frame).cred.partition) a.row ≡ counters (l ++ (a ∷ []))
  unfolding counts_under
  counted_more room = rw (counts_more room) counters_last

-- ---- what a counter's test tells
pub there_is : (len place row : ℕ) → no_counter len place row ≡ false
    → (len ≡ counter_count) × (place ≤ none) × (row < rows_of_place)
there_is len place row h =
    let two : ((len isnt counter_count) || (place over none)) ≡ false =
    or_l ((len isnt counter_count) || (place over none)) (leb rows_of_place row) h in (
      eqb-true len counter_count (not-false (len is counter_count) (or_l (len isnt counter_count) (place over none) two)),
      ltb-false none place (or_r (len isnt counter_count) (place over none) two),
      leb-false rows_of_place row (or_r ((len isnt counter_count) || (place over none)) (leb rows_of_place row) h),
    )

-- ---- the lines of the counters
-- a text of no bytes is put by doing nothing
pub none_put : (s : List ℕ) (k : ℕ) → TextPut s k [] k s
none_put s k = go (leb (k + 0) (length s))
  where
    go : (b : Bool) → (s ≡ cond b (splice s k []) s) × (k ≡ cond b (k + 0) k)
    go true = (sym (splice_none s k), omega arith)
    go false = (refl, refl)

-- a loop that stands at i: the text of one counter more
pub put_next : (ns : List ℕ) (i : ℕ) (p : Put) → i < length ns
    → counters_put i (drop i ns) p ≡ counters_put (i + 1) (drop (i + 1) ns) (text_put p (counter_text i (get_or ns i 0)))
unfolding counters_put
put_next ns i p h =
    ap (λ (l : List ℕ). counters_put i l p) (drop-cons ns i 0 h)
    ∙ ap (λ (k : ℕ). counters_put (i + 1) (drop k ns) (text_put p (counter_text i (get_or ns i 0)))) (sym (add-one i))

pub put_last : (ns : List ℕ) (i : ℕ) (p : Put) → length ns ≤ i → counters_put i (drop i ns) p ≡ p
unfolding counters_put
put_last ns i p h = rw (drop_of_length-le ns {i = i} h) refl

-- of the first, and of the others
lines_more : (i n : ℕ) (ns : List ℕ)
    → count_lines (counts_from i (n ∷ ns)) ≡ counter_text i n ++ count_lines (counts_from (i + 1) ns)
unfolding count_lines counts_from
lines_more i n ns = go (n is 0)
  where
    go : (b : Bool)
        → count_lines (elim b [
          | true ↦ counts_from (i + 1) ns
          | false ↦ record { place = i / rows_of_place; row = i % rows_of_place; count = n } ∷ counts_from (i + 1) ns
        ])
        ≡ cond b [] (count_line (record { place = i / rows_of_place; row = i % rows_of_place; count = n }))
        ++ count_lines (counts_from (i + 1) ns)
    go true = refl
    go false = refl

-- each at most 63 bytes
length-text : (i n : ℕ) → length (counter_text i n) ≤ 63
length-text i n = go (n is 0)
  where
    go : (b : Bool)
        → length (cond b [] (count_line (record { place = i / rows_of_place; row = i % rows_of_place; count = n }))) ≤ 63
    go true = omega arith
    go false = length-count-line (record { place = i / rows_of_place; row = i % rows_of_place; count = n })

pub length-lines : (i : ℕ) (ns : List ℕ) → length (count_lines (counts_from i ns)) ≤ 63 * length ns
unfolding count_lines counts_from
length-lines i [] = omega arith
length-lines i (n ∷ ns) =
    rw (lines_more i n ns)
    (omega (
      arith,
      length-append (counter_text i n) (count_lines (counts_from (i + 1) ns)),
      length-text i n,
      length-lines (i + 1) ns,
    ))

-- where they all fit, they are put whole, one after another
text-fits : (s t : List ℕ) (k : ℕ) → k + length t ≤ length s
    → text_put (record { space = s; end = k }) t ≡ record { space = splice s k t; end = k + length t }
text-fits s t k h = rw (le-leb (k + length t) (length s) h) refl

lines_put : (i : ℕ) (ns s : List ℕ) (k : ℕ) → k + length (count_lines (counts_from i ns)) ≤ length s
    → counters_put i ns (record { space = s; end = k })
    ≡ record { space = splice s k (count_lines (counts_from i ns)); end = k + length (count_lines (counts_from i ns)) }
unfolding counters_put count_lines counts_from
lines_put i [] s k h = λ j. record { space = sym (splice_none s k) j; end = (let e : k ≡ k + 0 = omega arith in e) j }
lines_put i (n ∷ ns) s k h =
    let t : List ℕ = counter_text i n in
    let u : List ℕ = count_lines (counts_from (i + 1) ns) in
    let e = lines_more i n ns in
    let both_long = length-append t u in
    let w : k + length t + length u ≤ length s = omega (arith, h, ap length e, both_long) in
    let same = length-splice s t k (omega arith) in
    let p : k + length t + length u ≡ k + length (count_lines (counts_from i (n ∷ ns))) =
    omega (arith, ap length e, both_long) in
    ap (counters_put (i + 1) ns) (text-fits s t k (omega arith))
    ∙ lines_put (i + 1) ns (splice s k t) (k + length t) (omega (arith, w, same))
    ∙ (λ j. record {
      space = (splice_next s k t u w ∙ ap (splice s k) (sym e)) j;
      end = p j;
    })

pub lines-whole : (ns s s' : List ℕ) (k r : ℕ) → k + 63 * length ns ≤ length s → CountersPut ns s k r s'
    → TextPut s k (count_lines (counts_from 0 ns)) r s'
lines-whole ns s s' k r h e =
    let w : k + length (count_lines (counts_from 0 ns)) ≤ length s = omega (arith, h, length-lines 0 ns) in
    let q = e ∙ lines_put 0 ns s k w in
    rw (le-leb (k + length (count_lines (counts_from 0 ns))) (length s) w) (ap Put.space q, ap Put.end q)
