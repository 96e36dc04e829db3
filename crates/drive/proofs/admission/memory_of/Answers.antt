-- Slot by slot.
use borrow.Author.Tests.{lt-ltb, le-ltb}
use Rattle.rules.specs.Frame.{memory_index}
use Rattle.drive.proofs.admission.memory_of.Goals as goal

pub returns-then-c-lt3 : goal.returns-then-c-lt3
unfolding memory_index
returns-then-c-lt3 c = rw (lt-ltb c.args.c.slot 3 c.if-c-lt3.true)

pub returns-else-c-lt3 : goal.returns-else-c-lt3
unfolding memory_index
returns-else-c-lt3 c = rw (le-ltb c.args.c.slot 3 c.if-c-lt3.false)
