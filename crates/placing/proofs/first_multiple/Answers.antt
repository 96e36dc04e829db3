-- The first multiple of the step from the place on (first_is).
use Rattle.std.proofs.Common.{arith}
use Rattle.placing.specs.Placing.{first_is}
use Rattle.placing.proofs.first_multiple.Goals as goal

pub returns : goal.returns
returns c =
    let a = c.args in
    let m = c.next_multiple_of.ensures in
    (first_is a.from a.step c.next_multiple_of.result (omega arith) (omega arith) (omega arith) (rw c.from-2.ensures at m.multiple), omega arith)
