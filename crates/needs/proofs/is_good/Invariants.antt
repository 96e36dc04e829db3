-- The loop: `good` tells of the first i needs.
use Rattle.std.proofs.Common.{◌≡◌, take}
use Rattle.lemmas.specs.Lists.{every}
use Rattle.rules.specs.Needs.{good_need, needs_at}
use Rattle.needs.proofs.is_good.Given as goal

abbrev pub invariant-loop-i : goal.invariant-loop-i
invariant-loop-i l = l.good ≡ every good_need (take l.i (needs_at l.bytes))
