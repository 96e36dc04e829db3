-- Inside: the cleared part, said of the whole (splice_all).
use mathlib.Core.Path.{◌≡◌, sym, ◌∙◌}
use mathlib.Core.Bool.{true}
use Prim.Native.Nat.{◌+◌, ◌-◌, ◌≤◌}
use native.Mathlib.Omega.{arith}
use lib.Dec.{leb}
use lib.ListN.{length, take, drop, replicate, length-replicate, length-take, length-drop}
use borrow.Author.Tests.{leb-true}
use Rattle.extent.specs.Extent.{splice_all}
use Rattle.extent.proofs.clear_extent.Goals as goal

pub returns-then-fits : goal.returns-then-fits
returns-then-fits c =
    let a = c.args in
    let passed : leb (a.start + a.size) (length a.medium.now) ≡ true = sym c.fits.ensures ∙ c.if-fits.true in
    let k : a.start + a.size ≤ length a.medium.now = leb-true (a.start + a.size) (length a.medium.now) passed in
    let fit : (a.start + a.size) - a.start ≡ a.size = omega arith in
    let size : length (take a.size (drop a.start a.medium.now)) ≡ a.size = simp (length-take, length-drop) (omega arith) in
    rw (passed, c.clear_all.ensures, fit, size)
    (splice_all a.medium.now a.start a.size (replicate a.size 0) (length-replicate a.size 0))
