-- The first i operations are loaded, and all else is as it was (filling_next).
use mathlib.Core.Path.{◌∙◌}
use native.Mathlib.Omega.{arith}
use Rattle.rules.specs.Needs.{need_at, needs_at}
use Rattle.state.specs.Loads.{filling_start, filling_next, filled}
use Rattle.state.specs.Steps.{unchanged, changed_table}
use Rattle.state.proofs.load.Goals as goal

pub returns-then-table-ne-TABLE : goal.returns-then-table-ne-TABLE
returns-then-table-ne-TABLE c = unchanged _ _ c.if-table-ne-TABLE.true

pub loop-i-init : goal.loop-i-init
loop-i-init c = filling_start (need_at _) _

pub put_need-requires : goal.put_need-requires
put_need-requires c =
    let l = c.loop-i in
    (l.invariant.content.long ∙ c.if-table-ne-TABLE.false, omega arith)

pub loop-i-preserved : goal.loop-i-preserved
loop-i-preserved c =
    let l = c.loop-i in
    let a = c.args in
    filling_next (need_at a.bytes.now) a.table.now l.table _ l.i _ l.invariant (omega arith)
    c.need_at.ensures c.put_need.ensures

pub returns : goal.returns
unfolding needs_at
returns c =
    let l = c.loop-i in
    let a = c.args in
    changed_table _ _ _ c.if-table-ne-TABLE.false
    (filled (need_at a.bytes.now) a.table.now l.table l.i (omega arith) l.invariant)
