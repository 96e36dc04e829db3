-- Past the last there is none; before it the four numbers of the place (objects_at).
use mathlib.Core.Path.{sym, ap, ◌∙◌}
use native.Mathlib.Omega.{arith}
use Rattle.std.proofs.lemmas.Option.{slice_get-get_or, slice_get_past}
use Rattle.std.specs.Prelude.{Some}
use Rattle.rules.specs.declared.Object.{Object}
use Rattle.rules.specs.Operations.{no_object}
use Rattle.state.specs.Table.{objects_in}
use Rattle.state.specs.Places.{objects_at, objects-table}
use Rattle.state.proofs.object.Goals as goal

pub returns-then-object_count-i : goal.returns-then-object_count-i
returns-then-object_count-i c =
    let n = c.object_count.ensures.0 in
    sym (slice_get_past (objects_in c.args.table.now) c.args.i (omega arith))

pub read-requires : goal.read-requires
read-requires c =
    let n = c.object_count.ensures in
    (objects-table c.args.table.now (omega arith), omega arith)

pub returns : goal.returns
returns c =
    let t = c.args.table.now in
    let n = c.object_count.ensures.0 in
    ap (λ (o : Object). Some o) (c.read.ensures ∙ sym (objects_at t c.args.i (omega arith)))
    ∙ sym (slice_get-get_or (objects_in t) c.args.i no_object (omega arith))
