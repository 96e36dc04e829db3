-- No table; the partition's version (raised-partition); an object's (raised-object).
use Rattle.state.specs.Steps.{unchanged, changed_table, raised-partition, raised-object}
use Rattle.state.proofs.raise.Goals as goal

pub returns-then-table-ne-TABLE : goal.returns-then-table-ne-TABLE
returns-then-table-ne-TABLE c = unchanged _ _ c.if-table-ne-TABLE.true

pub returns-then-number-eq0 : goal.returns-then-number-eq0
returns-then-number-eq0 c =
    let a = c.args in
    let l = c.if-table-ne-TABLE.false in
    changed_table _ _ _ l (raised-partition a.table.now a.number a.version l c.if-number-eq0.true)

pub returns : goal.returns
returns c =
    let a = c.args in
    let l = c.if-table-ne-TABLE.false in
    changed_table _ _ _ l (raised-object a.table.now _ a.number a.version l c.if-number-eq0.false c.renew.ensures)
