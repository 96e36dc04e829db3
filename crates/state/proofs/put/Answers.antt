-- Four stores, one object (content-stored).
use native.Mathlib.Omega.{arith}
use lib.ListN.{length-set}
use Rattle.state.specs.Steps.{content-stored}
use Rattle.state.proofs.put.Goals as goal

pub bounds-table-i-2 : goal.bounds-table-i-2
bounds-table-i-2 c = simp length-set (omega arith)

pub bounds-table-i-3 : goal.bounds-table-i-3
bounds-table-i-3 c = simp length-set (omega arith)

pub bounds-table-i-4 : goal.bounds-table-i-4
bounds-table-i-4 c = simp length-set (omega arith)

pub returns : goal.returns
returns c = content-stored c.args.table.now c.args.i c.args.o c.requires.0 c.requires.1
