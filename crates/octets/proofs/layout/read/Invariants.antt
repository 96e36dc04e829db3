-- The loop's invariant: the numbers passed, and what is left to read, are what is to be read.
use Rattle.std.proofs.Common.{◌≡◌, ◌++◌, length, take, drop}
use Rattle.lemmas.specs.BigEndian.{read_all}
use Rattle.octets.proofs.FieldLaws.{Ahead}
use Rattle.octets.proofs.layout.read.Given as goal

abbrev pub invariant-loop-i : goal.invariant-loop-i
invariant-loop-i l = Ahead l.widths l.i l.place (length l.s) × (length l.numbers ≡ length l.widths)
    × (take l.i l.numbers ++ read_all l.s l.place (drop l.i l.widths) ≡ read_all l.s l.at l.widths)
