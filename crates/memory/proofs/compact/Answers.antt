-- The entries that live of the first i are at the front, k of them, and behind them all is as it was (entry_kept,
-- entry_dropped).
use Rattle.std.proofs.Common.{◌≡◌, ◌<◌, length, take, drop, sym, refl, ap, ◌∙◌, arith, take_all, take_at, rules}
use Rattle.lemmas.specs.Lists.{keep}
use Rattle.lemmas.specs.Fronts.{behind_store}
use Rattle.rules.specs.Drive.{lives}
use Rattle.memory.specs.Memory.{entries_in}
use Rattle.memory.specs.Entries.{entries-count}
use Rattle.memory.specs.Moves.{entry_kept, entry_dropped, behind_put}
use Rattle.memory.proofs.compact.Goals as goal
use Rattle.memory.proofs.compact.Goals.{then-floor-e, else-floor-e}

pub loop-i-init : goal.loop-i-init
unfolding keep
loop-i-init c = (search rules, refl, refl, refl, refl, refl, refl)

pub loop-i-preserved : goal.loop-i-preserved
loop-i-preserved c =
    let l = c.loop-i in
    let a = c.args in
    let all = entries_in a.entries.now a.times.now in
    let more : l.i < length all = omega (arith, entries-count a.entries.now a.times.now) in
    let x = c.entry_at-e in
    elim c.if-floor-e.branch [
      | then-floor-e w ↦
          let turn = entry_kept a.mark all l.entries l.times l.i l.k more l.invariant.3 l.invariant.4 x.result x.ensures (omega arith) in
          let put = w.put_entry.ensures in
          rw (w.entries-is, w.times-is, w.k-is) (
            omega arith,
            w.put_entry.auto.entries ∙ l.invariant.1,
            w.put_entry.auto.times ∙ l.invariant.2,
            rw (put.0, put.1) turn.0,
            turn.1,
            rw put.0 (behind_put a.entries.now l.entries l.k x.result (omega arith) l.invariant.5),
            rw put.1 (behind_store a.times.now l.times l.k x.result.time l.invariant.6),
          )
      | else-floor-e w ↦
          let turn = entry_dropped a.mark all l.entries l.times l.i l.k more l.invariant.3 l.invariant.4 x.result x.ensures (omega arith) in
          rw (w.entries-is, w.times-is, w.k-is) (omega arith, l.invariant.1, l.invariant.2, turn.0, turn.1, l.invariant.5, l.invariant.6)
    ]

pub returns : goal.returns
returns c =
    let l = c.loop-i in
    let a = c.args in
    let all = entries_in a.entries.now a.times.now in
    let long = entries-count a.entries.now a.times.now in
    let every : take l.i all ≡ all = take_all l.i all (omega arith) in
    let kept = keep (lives a.mark) (take l.i all) in
    record {
      count = rw every at l.invariant.4;
      front = ap (take l.k) l.invariant.3 ∙ take_at kept (drop (length kept) all) l.k (sym l.invariant.4) ∙ ap (keep (lives a.mark)) every;
      entries = l.invariant.5;
      times = l.invariant.6;
    }
