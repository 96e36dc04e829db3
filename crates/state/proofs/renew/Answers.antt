-- The first i objects are renewed, and all else is as it was (renewed_one, renewed_none).
use Prim.Native.Nat.{◌<◌}
use native.Mathlib.Omega.{arith}
use lib.ListN.{length}
use Rattle.lemmas.specs.Lists.{change}
use Rattle.state.specs.Table.{objects_in}
use Rattle.state.specs.Steps.{content_same, objects_all, renewed_one, renewed_none}
use Rattle.state.proofs.renew.Goals as goal
use Rattle.state.proofs.renew.Goals.{then-table-i, else-table-i}

pub loop-i-init : goal.loop-i-init
unfolding change
loop-i-init c = content_same c.args.table.now

pub bounds-table-i : goal.bounds-table-i
bounds-table-i c =
    let l = c.loop-i.invariant.long in
    let n = c.object_count-i-end.ensures in
    omega (arith, c.requires)

pub bounds-table-i-then-table-i : goal.bounds-table-i-then-table-i
bounds-table-i-then-table-i c =
    let l = c.loop-i.invariant.long in
    let n = c.object_count-i-end.ensures in
    omega (arith, c.requires)

pub loop-i-preserved : goal.loop-i-preserved
loop-i-preserved c =
    let l = c.loop-i in
    let a = c.args in
    let n = c.object_count-i-end.ensures in
    let within : l.i < length (objects_in a.table.now) = omega arith in
    elim c.if-table-i.branch [
      | then-table-i w ↦ rw w.table-is
          (renewed_one a.table.now l.table a.number a.version l.i c.requires within l.invariant w.if-table-i.true)
      | else-table-i w ↦ rw w.table-is
          (renewed_none a.table.now l.table a.number a.version l.i c.requires within l.invariant w.if-table-i.false)
    ]

pub returns : goal.returns
returns c =
    let l = c.loop-i in
    let t = c.args.table.now in
    let n = c.object_count-i-end.ensures in
    rw (objects_all t l.i (omega arith)) at l.invariant
