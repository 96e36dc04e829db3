-- No gap (passed), the first one (gap_first), or the better of two (gap_lost, gap_won).
use Rattle.std.proofs.Common.{ap, ◌∙◌}
use Rattle.state.specs.Table.{objects_in}
use Rattle.placing.specs.Placing.{placed_option, passed, gap_first, gap_lost, gap_won}
use Rattle.placing.proofs.Search.better_of.Goals as goal

pub returns-in_default : goal.returns-in_default
returns-in_default c =
    let s = c.args.self in
    λ b e. e ∙ ap (placed_option s.step) (passed s.step s.quarter s.size (objects_in s.table.now) c.args.from b c.in_default.ensures)

pub returns-in-Some-best : goal.returns-in-Some-best
returns-in-Some-best c =
    let s = c.args.self in
    gap_lost s.step s.quarter s.size (objects_in s.table.now) c.args.from c.in-Some.gap c.in-Some.ensures c.args.best
    c.in-Some-best.other c.in-Some-best.is c.if-not-is_better.ensures

pub returns-in_default-best : goal.returns-in_default-best
returns-in_default-best c =
    let s = c.args.self in
    gap_won s.step s.quarter s.size (objects_in s.table.now) c.args.from c.in-Some.gap c.in-Some.ensures c.args.best
    c.in-Some-best.other c.in-Some-best.is c.if-not-is_better.ensures

pub returns-in_default-best-2 : goal.returns-in_default-best-2
returns-in_default-best-2 c =
    let s = c.args.self in
    gap_first s.step s.quarter s.size (objects_in s.table.now) c.args.from c.in-Some.gap c.in-Some.ensures c.args.best c.in_default-best.is
