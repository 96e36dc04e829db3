-- Where there is an object, the list is a table.
use Rattle.std.proofs.Common.{arith}
use Rattle.state.specs.Places.{objects-table}
use Rattle.state.proofs.front.Goals as goal

pub slice_bounds-result-end-2 : goal.slice_bounds-result-end-2
slice_bounds-result-end-2 c =
    let n = c.object_count-n.ensures in
    let w = objects-table c.args.table.now (omega arith) in
    omega arith
