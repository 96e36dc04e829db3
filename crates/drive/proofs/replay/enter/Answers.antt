-- One entry more at the end of memory k (joined_at).
use Rattle.drive.proofs.Memories.{joined_at}
use Rattle.drive.proofs.replay.enter.Goals as goal

pub returns : goal.returns
returns c =
    let a = c.args in
    joined_at a.lengths.now a.entries.now a.times.now c.requires.0 a.k c.requires.1 a.nonce
    c.enter.new.entries c.enter.new.times c.enter.ensures c.requires.2
