-- All lines fit, and what is written are the lines of the counts and the total behind them.
use mathlib.Core.Path.{◌≡◌, sym, ap, subst, ◌∙◌}
use mathlib.Core.List.{List, ◌++◌}
use Prim.Native.Nat.{ℕ, ◌+◌, ◌≤◌}
use native.Mathlib.Omega.{arith}
use lib.ListN.{length, take}
use lib.Seq.{length-take-le}
use borrow.Author.Tests.{le-leb}
use Rattle.rules.specs.Report.{counter_count, count_lines, counts_from, total}
use Rattle.lines.specs.Decimal.{length-total}
use Rattle.lines.specs.Placed.{text_put_lem}
use Rattle.lines.specs.Text.{TextPut}
use Rattle.logged.specs.Log.{Added}
use Rattle.tally.specs.Laws.{length-lines, lines-whole}
use Rattle.tally.specs.Tally.{CountersPut}
use Rattle.report.specs.Promises.{out_size}
use Rattle.report.proofs.print.Goals as goal

-- ---- the lines of the counts
lines : List ℕ → List ℕ
lines counters = count_lines (counts_from 0 counters)

-- they are put, and behind them is room for a last line of at most 63 bytes
record Put (counters out : List ℕ) (r : ℕ) (out' : List ℕ) : Type 0 where
  short : 63 + length (lines counters) ≤ length out
  place : r ≡ 0 + length (lines counters)
  text : take r out' ≡ lines counters

put : (counters out : List ℕ) (r : ℕ) (out' : List ℕ) → length counters ≡ counter_count → out_size ≤ length out
    → CountersPut counters out 0 r out'
    → Put counters out r out'
unfolding lines
put counters out r out' n h p =
    let short : 63 + length (lines counters) ≤ length out = omega (arith, length-lines 0 counters, n, h) in
    let t : TextPut out 0 (lines counters) r out' = lines-whole counters out out' 0 r (omega (arith, n, h)) p in
    record {
      short = short;
      place = t.1 ∙ (rw (le-leb (0 + length (lines counters)) (length out) (omega (arith, short))));
      text = text_put_lem out 0 (lines counters) r out' (omega (arith, short)) t;
    }

-- ---- and the total behind them
record Both (counters : List ℕ) (calls : ℕ) (out : List ℕ) (r : ℕ) (out' : List ℕ) : Type 0 where
  fits : r ≤ length out'
  text : take r out' ≡ lines counters ++ total calls

both : (counters out : List ℕ) (r : ℕ) (out' : List ℕ) (calls s : ℕ) (out'' : List ℕ) → Put counters out r out'
    → length out' ≡ length out
    → length out'' ≡ length out'
    → TextPut out' r (total calls) s out''
    → Both counters calls out' s out''
both counters out r out' calls s out'' p same same' t =
    let n : List ℕ = total calls in
    let room : r + length n ≤ length out' = omega (arith, p.place, p.short, length-total calls, same) in
    let e : s ≡ r + length n = t.1 ∙ (rw (le-leb (r + length n) (length out') room)) in
    record {
      fits = omega (arith, e, room, same');
      text = text_put_lem out' r n s out'' room t ∙ ap (λ (x : List ℕ). x ++ n) p.text;
    }

pub slice_bounds-write-end : goal.slice_bounds-write-end
slice_bounds-write-end c =
    let a = c.args in
    let p = put a.counters.now a.out.now c.put_counts-lines.result c.put_counts-lines.new.space c.requires.0
    c.requires.1 c.put_counts-lines.ensures in
    (both a.counters.now a.out.now c.put_counts-lines.result c.put_counts-lines.new.space a.calls
    c.put_last-end.result c.put_last-end.new.space p c.put_counts-lines.auto.space
    c.put_last-end.auto.space c.put_last-end.ensures).fits

pub slice_bounds-write-end-2 : goal.slice_bounds-write-end-2
slice_bounds-write-end-2 c =
    let a = c.args in
    let p = put a.counters.now a.out.now c.put_counts-lines.result c.put_counts-lines.new.space c.requires.0
    c.requires.1 c.put_counts-lines.ensures in
    sym (length-take-le c.put_last-end.result c.put_last-end.new.space
    (both a.counters.now a.out.now c.put_counts-lines.result c.put_counts-lines.new.space a.calls
    c.put_last-end.result c.put_last-end.new.space p c.put_counts-lines.auto.space
    c.put_last-end.auto.space c.put_last-end.ensures).fits)

pub returns : goal.returns
unfolding lines
returns c =
    let a = c.args in
    let p = put a.counters.now a.out.now c.put_counts-lines.result c.put_counts-lines.new.space c.requires.0
    c.requires.1 c.put_counts-lines.ensures in
    let b = both a.counters.now a.out.now c.put_counts-lines.result c.put_counts-lines.new.space a.calls
    c.put_last-end.result c.put_last-end.new.space p c.put_counts-lines.auto.space
    c.put_last-end.auto.space c.put_last-end.ensures in
    subst (λ (x : List ℕ). Added a.outlog.now 0 x c.write.new.log c.write.new.at) b.text c.write.ensures
