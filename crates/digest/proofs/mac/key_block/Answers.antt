-- A key of up to 64 bytes, and a longer one, hashed: key_short and key_long.
use mathlib.Core.Path.{ap, ◌∙◌}
use native.Mathlib.Omega.{arith}
use lib.ListN.{replicate}
use Rattle.octets.specs.Numbers.{bytes_put}
use Rattle.digest.proofs.Keys.{key_short, key_long}
use Rattle.digest.proofs.mac.key_block.Goals as goal

pub returns-then-key-le64 : goal.returns-then-key-le64
returns-then-key-le64 c = c.copy_to.ensures ∙ key_short c.args.key.now (omega arith)

pub returns : goal.returns
returns c = c.copy_to-2.ensures
    ∙ ap (bytes_put (replicate 64 0) 0) c.of-short.ensures
    ∙ key_long c.args.key.now (omega arith)
