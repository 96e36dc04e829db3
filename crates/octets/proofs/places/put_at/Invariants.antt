-- The loop's invariant: from place i on the bytes are written, and those before it are the bytes of what is left of x.
use Rattle.std.proofs.Common.{◌≡◌, ◌+◌, ◌++◌, take, drop}
use Rattle.lemmas.specs.BigEndian.{big_endian}
use Rattle.octets.proofs.places.put_at.Given as goal

abbrev pub invariant-loop-i : goal.invariant-loop-i
invariant-loop-i l = (l.s ≡ take (l.at + l.i) l.initial.s ++ (drop l.i (big_endian l.n l.x) ++ drop (l.at + l.n) l.initial.s)) × (take l.i (big_endian l.n l.x) ≡ big_endian l.i l.rest)
