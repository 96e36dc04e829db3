-- The loop's invariant: what the counters still to come put is what all of them put.
use Rattle.std.proofs.Common.{◌≡◌, sym, ap, ◌∙◌, List, ℕ, ◌+◌, drop, get_or, arith}
use Rattle.tally.specs.Tally.{counter_text, counters_put, text_put}
use Rattle.tally.specs.Laws.{put_next, put_last}
use Rattle.tally.proofs.put_counts.Goals as goal

pub loop-i-preserved : goal.loop-i-preserved
loop-i-preserved c =
    let l = c.loop-i in
    let p = c.put_counter-end in
    let ns : List ℕ = c.args.counters.now in
    let one : record { space = p.new.space; end = p.result }
    ≡ text_put (record { space = l.space; end = l.end }) (counter_text l.i (get_or ns l.i 0)) =
    (λ j. record { space = p.ensures.0 j; end = p.ensures.1 j }) in
    ap (counters_put (l.i + 1) (drop (l.i + 1) ns)) one
    ∙ sym (put_next ns l.i (record { space = l.space; end = l.end }) (omega arith))
    ∙ l.invariant

pub returns : goal.returns
returns c =
    let l = c.loop-i in
    sym (put_last c.args.counters.now l.i (record { space = l.space; end = l.end }) (omega arith)) ∙ l.invariant
