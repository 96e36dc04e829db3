-- Row 1's test, part by part.
use mathlib.Core.Bool.{◌&&◌, false≢true}
use native.Mathlib.Omega.{arith}
use borrow.Author.Tests.{le-leb, lt-leb}
use Rattle.lemmas.specs.Tests.{◌is◌, and_l}
use Rattle.rules.specs.Drive.{largest_medium}
use Rattle.drive.specs.View.{entries_fit}
use Rattle.drive.proofs.Tables.{all_every}
use Rattle.drive.proofs.row1.passes_row1.Goals as goal

pub returns-then-size-gt-LARGEST_MEDIUM : goal.returns-then-size-gt-LARGEST_MEDIUM
returns-then-size-gt-LARGEST_MEDIUM c =
    let a = c.args in
    (rw (lt-leb a.size largest_medium (omega arith)), λ e. absurd (false≢true e))

pub returns : goal.returns
returns c =
    let a = c.args in
    let p = c.sound_tables in
    let m = c.short_memories in (
      rw (le-leb a.size largest_medium (omega arith), p.ensures.0, m.ensures, all_every entries_fit a.lengths.now),
      λ e. p.ensures.1 (and_l p.result m.result (and_l (p.result && m.result) (a.n is a.size) e)),
    )
