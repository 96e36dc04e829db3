-- The outer hash takes the digest of the inner one.
use Rattle.digest.specs.Mac.{mac_finished}
use Rattle.digest.proofs.mac.finish.Goals as goal

pub returns : goal.returns
unfolding mac_finished
returns c = rw (c.finish.ensures, c.absorb.ensures, c.finish-text.ensures)
