-- Head, result and digest added up.
use Rattle.rules.specs.Operations.{reply_length}
use Rattle.reply.proofs.reply_length.Goals as goal

pub returns : goal.returns
unfolding reply_length
returns c = cc
