-- No table; three numbers and the operation table (emptied_all).
use Rattle.state.specs.Steps.{unchanged, changed_table, emptied_all}
use Rattle.state.proofs.empty.Goals as goal

pub returns-then-table-ne-TABLE : goal.returns-then-table-ne-TABLE
returns-then-table-ne-TABLE c = unchanged _ _ c.if-table-ne-TABLE.true

pub returns : goal.returns
returns c =
    let a = c.args in
    let w = c.if-table-ne-TABLE.false in
    changed_table _ _ _ w (emptied_all a.table.now _ a.first w c.put_defaults.ensures)
