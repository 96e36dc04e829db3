-- The loop's invariant: what is still to be counted makes of the counters what all of it makes of those at the start.
use Rattle.std.proofs.Common.{◌≡◌, ◌<◌, sym, ◌∙◌, List, ℕ, length, map, get_or, arith}
use Rattle.std.proofs.lemmas.List.{get_or-map, length-map}
use Rattle.rules.specs.Report.{place_of}
use Rattle.reader.specs.Promises.{answered_partition, answered_row}
use Rattle.tally.specs.Tally.{counted}
use Rattle.report.specs.Counting.{counted-end, counted_step}
use Rattle.report.specs.Promises.{counted_all}
use Rattle.report.proofs.count_all.Goals as goal

pub loop-answered-preserved : goal.loop-answered-preserved
loop-answered-preserved c =
    let l = c.loop-answered in
    let a = c.args in
    let i : ℕ = l.answered-index in
    let rows : List ℕ = map answered_row a.answers.now in
    let partitions : List ℕ = map answered_partition a.answers.now in
    let within : i < length a.answers.now = omega (arith, c.loop-answered-test.true) in
    let row : c.row.result ≡ get_or rows i 0 = c.row.ensures ∙ sym (get_or-map answered_row a.answers.now i _ 0 within) in
    let place = get_or-map answered_partition a.answers.now i _ 0 within in
    let one : c.count.new.counters ≡ counted l.counters (place_of (get_or rows i 0) (get_or partitions i 0)) (get_or rows i 0) =
    rw (sym row, place) c.count.ensures.1 in
    counted_step (counted_all a.counters.now rows partitions) l.counters rows partitions c.count.new.counters i
    (omega (arith, c.loop-answered-test.true, length-map a.answers.now answered_row))
    (length-map a.answers.now answered_row ∙ sym (length-map a.answers.now answered_partition)) l.invariant one

pub returns : goal.returns
returns c =
    let l = c.loop-answered in
    let a = c.args in
    counted-end (counted_all a.counters.now (map answered_row a.answers.now) (map answered_partition a.answers.now)) l.counters
    (map answered_row a.answers.now) (map answered_partition a.answers.now) l.answered-index
    (omega (arith, c.loop-answered-test.false, length-map a.answers.now answered_row)) l.invariant
