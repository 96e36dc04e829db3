-- The loop's invariant: what the counters still to come put is what all of them put.
use Rattle.std.proofs.Common.{◌≡◌, drop}
use Rattle.tally.specs.Tally.{counters_put}
use Rattle.tally.proofs.put_counts.Given as goal

abbrev pub invariant-loop-i : goal.invariant-loop-i
invariant-loop-i l = counters_put l.i (drop l.i l.counters) (record { space = l.space; end = l.end })
    ≡ counters_put 0 l.counters (record { space = l.initial.space; end = l.at })
