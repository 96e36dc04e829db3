-- The object of the place where there is one, else zeros (unwrap_or-slice_get).
use mathlib.Core.Path.{ap, ◌∙◌}
use Rattle.std.proofs.lemmas.Option.{unwrap_or-slice_get}
use Rattle.std.specs.Option.{unwrap_or}
use Rattle.std.specs.Prelude.{Option}
use Rattle.rules.specs.declared.Object.{Object}
use Rattle.rules.specs.Operations.{no_object}
use Rattle.state.specs.Table.{objects_in}
use Rattle.state.proofs.object_at.Goals as goal

pub returns : goal.returns
returns c =
    c.unwrap_or.ensures
    ∙ ap (λ (o : Option Object). unwrap_or o no_object) c.object.ensures
    ∙ unwrap_or-slice_get (objects_in c.args.table.now) c.args.i no_object
