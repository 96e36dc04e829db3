-- The loop's invariant: what is left, written behind the fields passed, is what is to be written.
use Rattle.std.proofs.Common.{◌≡◌, length, drop}
use Rattle.lemmas.specs.Lists.{splice}
use Rattle.lemmas.specs.BigEndian.{encode}
use Rattle.octets.proofs.FieldLaws.{Ahead}
use Rattle.octets.proofs.layout.write.Given as goal

abbrev pub invariant-loop-w : goal.invariant-loop-w
invariant-loop-w l = Ahead l.widths (length l.yielded) l.place (length l.initial.s) × (length l.numbers ≡ length l.widths)
    × (splice l.s l.place (encode (drop (length l.yielded) l.widths) (drop (length l.yielded) l.numbers)) ≡ splice l.initial.s l.at (encode l.widths l.numbers))
