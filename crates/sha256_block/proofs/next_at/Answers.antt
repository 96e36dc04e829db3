-- The sum of the four words, by what each call ensures.
use Rattle.sha256_block.specs.Sha256.{next}
use Rattle.sha256_block.proofs.next_at.Goals as goal

pub returns : goal.returns
unfolding next
returns c = rw (c.small0.ensures, c.small1.ensures)
