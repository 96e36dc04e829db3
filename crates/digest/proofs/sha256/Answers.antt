-- Row 27 by the test on the length; else the digest.
use mathlib.Core.Path.{ap}
use borrow.Author.Tests.{lt-ltb, le-ltb}
use Rattle.lemmas.specs.RowTable.{first_row}
use Rattle.digest.specs.Digest.{answer}
use Rattle.digest.proofs.sha256.Goals as goal

pub returns-then-message-gt-MOST : goal.returns-then-message-gt-MOST
unfolding first_row
returns-then-message-gt-MOST c = simp (lt-ltb _ _ c.if-message-gt-MOST.true)

pub returns : goal.returns
unfolding first_row
returns c = simp (le-ltb _ _ c.if-message-gt-MOST.false) (ap (answer 0) c.of.ensures)
