-- While seen is under 2^63 none of the times so far is below the floor (quick_more).
use Rattle.std.proofs.Common.{◌≡◌, ℕ, ◌^◌, ◌<◌, ◌≤◌, false, ltb, take}
use Rattle.lemmas.specs.Lists.{some?}
use Rattle.memory.proofs.none_below.Given as goal

abbrev pub invariant-loop-time : goal.invariant-loop-time
invariant-loop-time l = (l.floor ≤ l.seen) × (l.seen < 2 ^ 63 → some? (λ (t : ℕ). ltb t l.floor) (take l.time-index l.times) ≡ false)
