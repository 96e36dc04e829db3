-- Inside: what was written into the object's own part, said of the whole (put_part). Else nothing was lent.
use mathlib.Core.Path.{◌≡◌, sym, ◌∙◌}
use mathlib.Core.Bool.{true}
use Prim.Native.Nat.{◌+◌, ◌-◌, ◌≤◌}
use native.Mathlib.Omega.{arith}
use lib.Dec.{leb}
use lib.ListN.{length}
use borrow.Author.Tests.{leb-true, not-true, not-false}
use Rattle.extent.specs.Extent.{put_part}
use Rattle.extent.proofs.write_extent.Goals as goal

pub returns-then-not-fits : goal.returns-then-not-fits
returns-then-not-fits c = rw (← c.fits.ensures, not-true c.fits.result c.if-not-fits.true-raw)

pub returns : goal.returns
returns c =
    let a = c.args in
    let passed : leb (a.start + a.size) (length a.medium.now) ≡ true = sym c.fits.ensures ∙ not-false c.fits.result c.if-not-fits.false-raw in
    let k : a.start + a.size ≤ length a.medium.now = leb-true (a.start + a.size) (length a.medium.now) passed in
    let fit : (a.start + a.size) - a.start ≡ a.size = omega arith in
    rw (passed, c.copy_to.ensures, fit)
    (put_part a.medium.now a.start a.size a.offset a.bytes.now k)
