-- Byte by byte.
use Rattle.std.proofs.Common.{refl}
use Rattle.lemmas.specs.BigEndian.{big_endian, digit}
use Rattle.rules.specs.Operations.{head}
use Rattle.reply.proofs.reply_head.Goals as goal

pub returns : goal.returns
unfolding head big_endian digit
returns c = rw c.to_be_bytes.ensures refl
