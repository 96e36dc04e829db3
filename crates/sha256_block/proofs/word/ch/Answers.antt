-- The cheaper form is Ch: Ch_is.
use Rattle.std.proofs.Common.{arith}
use Rattle.sha256_block.proofs.Words.{Ch_is}
use Rattle.sha256_block.proofs.word.ch.Goals as goal

pub returns : goal.returns
returns c = Ch_is c.args.x c.args.y c.args.z (omega arith) (omega arith)
