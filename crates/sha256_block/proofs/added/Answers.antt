-- The eight sums.
use Rattle.std.proofs.Common.{refl}
use Rattle.sha256_block.specs.Sha256.{added}
use Rattle.sha256_block.proofs.added.Goals as goal

pub returns : goal.returns
unfolding added
returns c = refl
