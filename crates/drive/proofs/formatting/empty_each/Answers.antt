-- The first i tables are of partitions that have nothing (emptied_next).
use mathlib.Core.Path.{◌≡◌}
use Prim.Native.Nat.{ℕ, ◌+◌, ◌-◌, ◌*◌}
use native.Mathlib.Omega.{arith}
use Rattle.state.specs.Table.{table_size}
use Rattle.state.specs.Steps.{emptied_view}
use Rattle.drive.proofs.Tables.{emptied_none, lent_long, emptied_next, all_emptied}
use Rattle.drive.proofs.formatting.empty_each.Goals as goal

pub loop-i-init : goal.loop-i-init
loop-i-init c = emptied_none _ _ c.requires

pub loop-i-preserved : goal.loop-i-preserved
loop-i-preserved c =
    let l = c.loop-i in
    let first = c.args.first in
    let width : ℕ = table_size * l.i + table_size - table_size * l.i in
    let wide : width ≡ table_size = omega arith in
    let w = l.invariant in
    emptied_next first l.i width l.tables c.empty.new.table w (omega arith) wide c.empty.auto.table
    (emptied_view _ c.empty.new.table first (c.empty.ensures.table (lent_long w (omega arith) wide)))

pub returns : goal.returns
returns c =
    let l = c.loop-i in
    all_emptied _ l.i l.tables (omega arith) l.invariant
