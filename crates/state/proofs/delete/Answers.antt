-- Of the first i objects those of other numbers are at the front, `left` of them (delete_kept, delete-passed).
use mathlib.Core.Path.{refl}
use Prim.Native.Nat.{◌<◌}
use native.Mathlib.Omega.{arith}
use lib.ListN.{length}
use borrow.Author.Rules.{rules}
use Rattle.lemmas.specs.Lists.{keep}
use Rattle.state.specs.Table.{objects_in}
use Rattle.state.specs.Steps.{unchanged, changed_table, content_same, delete_kept, delete-passed, deleted_all}
use Rattle.state.proofs.delete.Goals as goal
use Rattle.state.proofs.delete.Goals.{then-o-number, else-o-number}

pub returns-then-table-ne-TABLE : goal.returns-then-table-ne-TABLE
returns-then-table-ne-TABLE c = unchanged _ _ c.if-table-ne-TABLE.true

pub loop-i-init : goal.loop-i-init
unfolding keep
loop-i-init c = (search rules, content_same c.args.table.now, refl)

pub put-requires : goal.put-requires
put-requires c =
    let k = c.loop-i.invariant.1.long in
    let n = c.object_count-n.ensures in
    (omega (arith, c.if-table-ne-TABLE.false), omega arith)

pub loop-i-preserved : goal.loop-i-preserved
loop-i-preserved c =
    let l = c.loop-i in
    let n = c.object_count-n.ensures in
    let within : l.i < length (objects_in c.args.table.now) = omega arith in
    let a = c.args in
    let o = c.read-o in
    elim c.if-o-number.branch [
      | then-o-number w ↦
          let kept = delete_kept a.table.now l.table a.number l.i l.left within l.invariant.1 l.invariant.2 o.result o.ensures
          w.put.new.table w.if-o-number.true w.put.ensures in
          rw (w.table-is, w.left-is) (omega arith, kept.0, kept.1)
      | else-o-number w ↦
          let passed = delete-passed a.table.now l.table a.number l.i l.left within l.invariant.1 l.invariant.2 o.result o.ensures
          w.if-o-number.false in
          rw (w.table-is, w.left-is) (omega arith, passed.0, passed.1)
    ]

pub overflow_cast-table : goal.overflow_cast-table
overflow_cast-table c =
    let l = c.loop-i in
    let n = c.object_count-n.ensures in
    omega arith

pub bounds-table-2 : goal.bounds-table-2
bounds-table-2 c =
    let l = c.loop-i.invariant.1.long in
    let w = c.if-table-ne-TABLE.false in
    omega arith

pub returns : goal.returns
returns c =
    let l = c.loop-i in
    let a = c.args in
    let n = c.object_count-n.ensures in
    let w = c.if-table-ne-TABLE.false in
    changed_table _ _ _ w (deleted_all a.table.now l.table a.number l.i l.left w (omega arith) l.invariant.1 l.invariant.2)
