-- The inner hash takes the part.
use Rattle.digest.specs.Mac.{mac_absorbed}
use Rattle.digest.proofs.mac.absorb.Goals as goal

pub returns : goal.returns
unfolding mac_absorbed
returns c = λ i. record { inner = c.absorb-inner.ensures i; outer = c.args.a.outer }
