-- The loop's invariant: the fields that are left fit into the bytes that are left exactly if all fit.
use Rattle.std.proofs.Common.{◌≡◌, drop}
use Rattle.octets.specs.Fields.{fields_fit}
use Rattle.octets.proofs.FieldLaws.{fit_in}
use Rattle.octets.proofs.layout.fields_fit.Given as goal

abbrev pub invariant-loop-w : goal.invariant-loop-w
invariant-loop-w l = fit_in (drop l.w-index l.widths) l.rest ≡ fields_fit l.len l.at l.widths l.count
