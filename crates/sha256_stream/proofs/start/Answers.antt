-- The fields are those of the initial hash value.
use Rattle.std.proofs.Common.{refl}
use Rattle.sha256_block.specs.Sha256.{H₀}
use Rattle.sha256_stream.specs.Stream.{started}
use Rattle.sha256_stream.proofs.start.Goals as goal

pub returns : goal.returns
unfolding started H₀
returns c = refl
