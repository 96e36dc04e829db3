-- The first i operations have document 01's need, and all else is as it was (filling_next).
use mathlib.Core.Path.{◌∙◌}
use native.Mathlib.Omega.{arith}
use Rattle.rules.specs.Needs.{default_need, default_needs}
use Rattle.state.specs.Loads.{filling_start, filling_next, filled}
use Rattle.state.proofs.put_defaults.Goals as goal

pub loop-i-init : goal.loop-i-init
loop-i-init c = filling_start default_need _

pub put_need-requires : goal.put_need-requires
put_need-requires c =
    let l = c.loop-i in
    (l.invariant.content.long ∙ c.requires, omega arith)

pub loop-i-preserved : goal.loop-i-preserved
loop-i-preserved c =
    let l = c.loop-i in
    filling_next default_need c.args.table.now l.table _ l.i _ l.invariant (omega arith)
    c.default_need.ensures c.put_need.ensures

pub returns : goal.returns
unfolding default_needs
returns c =
    let l = c.loop-i in
    filled default_need c.args.table.now l.table l.i (omega arith) l.invariant
