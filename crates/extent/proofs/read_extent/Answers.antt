-- Inside: the part of the medium, put into the space. Else nothing changed.
use mathlib.Core.Path.{◌≡◌, sym, ◌∙◌}
use mathlib.Core.Bool.{true}
use Prim.Native.Nat.{◌+◌, ◌-◌, ◌≤◌}
use native.Mathlib.Omega.{arith}
use lib.Dec.{leb}
use lib.ListN.{length, take, drop, length-take, length-drop}
use borrow.Author.Tests.{leb-true, not-true, not-false}
use Rattle.lemmas.specs.Lists.{part}
use Rattle.extent.proofs.read_extent.Goals as goal

pub returns-then-not-fits : goal.returns-then-not-fits
returns-then-not-fits c = rw (← c.fits.ensures, not-true c.fits.result c.if-not-fits.true-raw)

pub returns : goal.returns
unfolding part
returns c =
    let a = c.args in
    let passed : leb (a.start + a.count) (length a.medium.now) ≡ true = sym c.fits.ensures ∙ not-false c.fits.result c.if-not-fits.false-raw in
    let k : a.start + a.count ≤ length a.medium.now = leb-true (a.start + a.count) (length a.medium.now) passed in
    let fit : (a.start + a.count) - a.start ≡ a.count = omega arith in
    let size : length (take a.count (drop a.start a.medium.now)) ≡ a.count = simp (length-take, length-drop) (omega arith) in
    rw (passed, c.copy_to.ensures, fit, size)
