-- Field by field, grouped otherwise.
use Rattle.std.proofs.Common.{◌∙◌}
use Rattle.std.proofs.Math.Bool.{and_assoc}
use Rattle.rules.specs.Drive.{same_entry}
use Rattle.memory.proofs.is_same.Goals as goal

pub returns : goal.returns
unfolding same_entry
returns c = c.eq.ensures ∙ simp and_assoc
