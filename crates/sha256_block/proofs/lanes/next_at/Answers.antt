-- The sum of the four words, by what each call ensures, is the next word of its lane: lanes_next.
use Rattle.sha256_block.proofs.Schedules.{lanes_next}
use Rattle.sha256_block.proofs.lanes.next_at.Goals as goal

pub returns : goal.returns
returns c =
    let a = c.args in
    let h = c.requires in
    λ m known. rw (c.small0.ensures, c.small1.ensures) (lanes_next a.w.now m a.p h.0 h.1 known)
