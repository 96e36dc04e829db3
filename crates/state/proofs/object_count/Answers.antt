-- As many as the count says, sixteen at most; none where the list is no table (objects-length).
use mathlib.Core.Path.{◌≡◌, refl}
use native.Mathlib.Omega.{arith}
use lib.ListN.{length}
use borrow.Author.Tests.{ne_eqb}
use Rattle.state.specs.Table.{table_size, count_in}
use Rattle.state.specs.Places.{objects-length, count_is}
use Rattle.state.proofs.object_count.Goals as goal

pub returns-then-table-ne-TABLE : goal.returns-then-table-ne-TABLE
returns-then-table-ne-TABLE c =
    let t = c.args.table.now in
    let n = objects-length t in
    let z : count_in t ≡ 0 = rw (ne_eqb (length t) table_size c.if-table-ne-TABLE.true) refl in
    (omega arith, omega arith)

pub returns : goal.returns
returns c =
    let t = c.args.table.now in
    let n = objects-length t in
    let z = count_is t c.if-table-ne-TABLE.false in
    let w = c.min.ensures in
    (omega arith, omega arith)
