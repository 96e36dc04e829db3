-- The loop's invariant: the bytes XORed so far stand at the front, and behind them all is as it was.
use Rattle.std.proofs.Common.{◌≡◌, length, take}
use Rattle.lemmas.specs.Fronts.{with_front}
use Rattle.digest.specs.Hmac.{xored}
use Rattle.digest.proofs.mac.xored.Given as goal

abbrev pub invariant-loop-b : goal.invariant-loop-b
invariant-loop-b l =
    (length l.initial.b-items ≡ 64)
    × (l.b-items ≡ with_front (xored l.c (take l.b-index l.initial.b-items)) l.initial.b-items)
