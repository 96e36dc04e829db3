-- best is the pass over as many objects as were yielded.
use Rattle.std.proofs.Common.{◌≡◌, length}
use Rattle.state.specs.Table.{objects_in}
use Rattle.placing.specs.Placing.{placed_option, pass_to}
use Rattle.placing.proofs.Search.best_gap.Given as goal

abbrev pub invariant-loop-start : goal.invariant-loop-start
invariant-loop-start l =
    let s = l.self in
    l.best ≡ placed_option s.step (pass_to s.step s.quarter s.size (objects_in s.table.now) (length l.yielded))
