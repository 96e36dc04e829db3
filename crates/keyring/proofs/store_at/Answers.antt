-- Past the test the key's 32 bytes and its own byte are there.
use Rattle.std.proofs.Common.{arith}
use Rattle.keyring.proofs.Places.{stored}
use Rattle.keyring.proofs.store_at.Goals as goal

pub returns : goal.returns
returns c =
    let a = c.args in
    stored a.j _ a.new.now a.keys.now _ (omega arith) c.if-keys-ne-KEYS.false c.if-new-ne-KEY_SIZE.false (omega arith)
    c.copy_from_slice.ensures.after
