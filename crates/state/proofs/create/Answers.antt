-- No table; no room (created_full); one more (created-room).
use mathlib.Core.Path.{refl, ◌∙◌}
use native.Mathlib.Omega.{arith}
use lib.ListN.{length-set}
use Rattle.state.specs.Steps.{unchanged, changed_table, created-room, created_full}
use Rattle.state.specs.Table.{last_at}
use Rattle.state.proofs.create.Goals as goal

pub returns-then-table-ne-TABLE : goal.returns-then-table-ne-TABLE
returns-then-table-ne-TABLE c = unchanged _ _ c.if-table-ne-TABLE.true

pub returns-then-n-ge-MOST_OBJECTS : goal.returns-then-n-ge-MOST_OBJECTS
returns-then-n-ge-MOST_OBJECTS c =
    let a = c.args in
    let l = c.if-table-ne-TABLE.false in
    changed_table _ _ _ l (created_full a.table.now a.o l c.if-n-ge-MOST_OBJECTS.true)

pub bounds-table-2-2 : goal.bounds-table-2-2
bounds-table-2-2 c =
    let n = c.put.ensures.long ∙ length-set c.args.table.now last_at c.args.o.version in
    let l = c.if-table-ne-TABLE.false in
    omega arith

pub returns : goal.returns
returns c =
    let a = c.args in
    let l = c.if-table-ne-TABLE.false in
    changed_table _ _ _ l (created-room a.table.now _ a.o _ l refl c.if-n-ge-MOST_OBJECTS.false c.put.ensures)
