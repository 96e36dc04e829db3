-- The object at the first place where the number stands (found), or none (missed).
use Rattle.std.proofs.Common.{ap, ◌∙◌}
use Rattle.std.specs.Prelude.{Option}
use Rattle.lemmas.specs.Options.{option_of}
use Rattle.rules.specs.declared.Object.{Object}
use Rattle.state.specs.Table.{objects_in}
use Rattle.state.specs.Places.{found, missed}
use Rattle.state.proofs.look_up.Goals as goal

pub returns-in_err-place_of : goal.returns-in_err-place_of
returns-in_err-place_of c = rw c.from_residual.ensures (missed c.args.number (objects_in c.args.table.now) c.in_err-place_of.ensures)

pub returns : goal.returns
returns c =
    ap (λ (o : Option Object). option_of o) c.object.ensures
    ∙ found c.args.number (objects_in c.args.table.now) c.in_ok-place_of.field-0 c.in_ok-place_of.ensures
