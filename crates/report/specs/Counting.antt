-- Laws of counting: a round's calls, counted one after the other by their rows and partitions, are added to the counts.
use Rattle.std.specs.Prelude.{◌≡◌, true, List, [], ◌∷◌, ◌++◌, map, ℕ, suc, ◌+◌, ◌≤◌, ◌<◌, length, drop, get_or}
use Rattle.std.proofs.Common.{sym, ap, ◌∙◌, append_assoc, append-nil, arith, drop_of_length-le, length-append, drop-cons}
use Rattle.lemmas.specs.Lists.{every}
use Rattle.lemmas.specs.Tests.{and_l, and_r}
use Rattle.rules.specs.Program.{AnsweredCall}
use Rattle.rules.specs.Report.{counters, place_of}
use Rattle.rules.proofs.Counts.{countable, counter_of}
use Rattle.reader.specs.Promises.{partition_of}
use Rattle.tally.specs.Tally.{counted, most_count}
use Rattle.tally.specs.Laws.{counted_more, not_full}
use Rattle.report.specs.Promises.{counted_all}

-- a loop that counts one after the other: ns are the counters when i are counted
pub counted_step : (all ns rows partitions ns' : List ℕ) (i : ℕ) → i < length rows → length rows ≡ length partitions
    → all ≡ counted_all ns (drop i rows) (drop i partitions)
    → ns' ≡ counted ns (place_of (get_or rows i 0) (get_or partitions i 0)) (get_or rows i 0)
    → all ≡ counted_all ns' (drop (i + 1) rows) (drop (i + 1) partitions)
unfolding counted_all
counted_step all ns rows partitions ns' i h e before one =
    let j : suc i ≡ i + 1 = omega arith in
    before
    ∙ ap (λ (x : List ℕ). counted_all ns x (drop i partitions)) (drop-cons rows i 0 h)
    ∙ ap (λ (x : List ℕ). counted_all ns (get_or rows i 0 ∷ drop (suc i) rows) x) (drop-cons partitions i 0 (omega (arith, h, e)))
    ∙ ap (λ (x : List ℕ). counted_all x (drop (suc i) rows) (drop (suc i) partitions)) (sym one)
    ∙ ap (λ (k : ℕ). counted_all ns' (drop k rows) (drop k partitions)) j

pub counted-end : (all ns rows partitions : List ℕ) (i : ℕ) → length rows ≤ i
    → all ≡ counted_all ns (drop i rows) (drop i partitions)
    → ns ≡ all
unfolding counted_all
counted-end all ns rows partitions i h e =
    sym (e ∙ ap (λ (x : List ℕ). counted_all ns x (drop i partitions)) (drop_of_length-le rows {i = i} h))

-- the counts of a list of calls, and then of another
pub counted_both : (l more : List AnsweredCall) → every countable more ≡ true → length l + length more < most_count
    → counted_all (counters l) (map AnsweredCall.row more) (map partition_of more) ≡ counters (l ++ more)
unfolding counted_all every
counted_both l [] h few = ap counters (sym (append-nil l))
counted_both l (a ∷ more) h few =
    let one : counted (counters l) (place_of a.row (partition_of a)) a.row ≡ counters (l ++ (a ∷ [])) =
    counted_more l a (and_l (countable a) (every countable more) h) (not_full (counter_of a) l (omega (arith, few))) in
    ap (λ (x : List ℕ). counted_all x (map AnsweredCall.row more) (map partition_of more)) one
    ∙ counted_both (l ++ (a ∷ [])) more (and_r (countable a) (every countable more) h)
    (omega (arith, few, length-append l (a ∷ [])))
    ∙ ap counters (append_assoc l (a ∷ []) more)
