-- The cheaper form is Maj: Maj_is.
use Rattle.sha256_block.proofs.Words.{Maj_is}
use Rattle.sha256_block.proofs.word.maj.Goals as goal

pub returns : goal.returns
returns c = Maj_is c.args.x c.args.y c.args.z
