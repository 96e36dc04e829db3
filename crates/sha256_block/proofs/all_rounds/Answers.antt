-- The first sixteen rounds and then the others are the rounds over the whole schedule, K being the table of the code.
use Rattle.std.proofs.Common.{◌∙◌}
use Rattle.sha256_block.specs.Sha256.{K}
use Rattle.sha256_block.proofs.all_rounds.Goals as goal

pub returns : goal.returns
unfolding K
returns c = c.later_rounds.ensures ∙ c.first_rounds-v.ensures
