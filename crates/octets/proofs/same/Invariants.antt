-- The loop's invariant: the bytes passed are the same exactly if no bit of them differed.
use Rattle.std.proofs.Common.{◌≡◌, ◌<◌, eqb, length, take}
use Rattle.lemmas.specs.Lists.{same}
use Rattle.octets.proofs.same.Given as goal

abbrev pub invariant-loop-x : goal.invariant-loop-x
invariant-loop-x l =
    (l.diff < 256) × (same (take (length l.yielded) l.a) (take (length l.yielded) l.b) ≡ eqb l.diff 0)
