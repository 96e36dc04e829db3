-- Both hashes take the key block, XORed with their byte.
use Rattle.digest.specs.Mac.{mac_started}
use Rattle.digest.proofs.mac.start.Goals as goal

pub returns : goal.returns
unfolding mac_started
returns c =
    let kb = c.key_block-k.ensures in
    rw (
      c.absorb-outer.ensures,
      c.start-2.ensures,
      c.absorb-inner.ensures,
      c.start.ensures,
      c.xored-opad.ensures,
      c.xored-ipad.ensures,
      kb,
    )
