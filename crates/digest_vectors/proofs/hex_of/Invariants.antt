-- The loop's invariant: the text starts with the digits of the bytes read so far.
use Rattle.std.proofs.Common.{◌≡◌, ◌*◌, length, take}
use Rattle.digest_vectors.specs.Hex.{hex}
use Rattle.digest_vectors.proofs.hex_of.Given as goal

abbrev pub invariant-loop-i : goal.invariant-loop-i
invariant-loop-i l =
    (length l.initial.b-items ≡ 32) × (length l.text ≡ 64) × (take (2 * l.i) l.text ≡ hex (take l.i l.initial.b-items))
