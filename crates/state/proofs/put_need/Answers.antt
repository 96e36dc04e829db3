-- Two stores, one need (content-need).
use native.Mathlib.Omega.{arith}
use lib.ListN.{length-set}
use Rattle.state.specs.Loads.{content-need}
use Rattle.state.proofs.put_need.Goals as goal

pub bounds-table-i-2 : goal.bounds-table-i-2
bounds-table-i-2 c = simp length-set (omega arith)

pub returns : goal.returns
returns c = content-need c.args.table.now c.args.i c.args.n c.requires.0 c.requires.1
