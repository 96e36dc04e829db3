-- The part lent is the data (the_payload).
use mathlib.Core.Path.{ap, ◌∙◌}
use Rattle.rules.specs.Rows.{row31}
use Rattle.drive.proofs.Frames.{the_payload}
use Rattle.drive.proofs.admission.loads_bad_table.Goals as goal

pub returns : goal.returns
returns c =
    c.is_bad_load.ensures ∙ ap (row31 c.args.r) (the_payload c.requires)
