-- Row 27 by the tests on the two lengths; else the digest.
use mathlib.Core.Path.{ap}
use borrow.Author.Tests.{lt-ltb, le-ltb}
use Rattle.lemmas.specs.RowTable.{first_row}
use Rattle.digest.specs.Digest.{answer}
use Rattle.digest.proofs.hmac.Goals as goal
use Rattle.digest.proofs.hmac.Goals.{then-key-gt-MOST-via-then-key-gt-MOST, then-key-gt-MOST-via-else-key-gt-MOST+then-message-gt-MOST}

pub returns-then-key-gt-MOST : goal.returns-then-key-gt-MOST
unfolding first_row
returns-then-key-gt-MOST c =
    elim c.then-key-gt-MOST.branch [
      | then-key-gt-MOST-via-then-key-gt-MOST w ↦ simp (lt-ltb _ _ w.if-key-gt-MOST.true)
      | then-key-gt-MOST-via-else-key-gt-MOST+then-message-gt-MOST w ↦ simp (le-ltb _ _ w.if-key-gt-MOST.false, lt-ltb _ _ w.if-message-gt-MOST.true)
    ]

pub returns : goal.returns
unfolding first_row
returns c = simp (le-ltb _ _ c.if-key-gt-MOST.false, le-ltb _ _ c.if-message-gt-MOST.false)
    (ap (answer 0) c.of.ensures)
