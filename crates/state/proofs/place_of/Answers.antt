-- The first place of the objects' numbers at which the number stands.
use Rattle.std.specs.Prelude.{◌≡◌, map}
use Rattle.std.proofs.Common.{rules, tests}
use Rattle.std.proofs.lemmas.Iterator.{YieldsList-from_slice}
use Rattle.std.proofs.lemmas.Iterator.Search.{position_from_yields_List}
use Rattle.rules.specs.declared.Object.{Object}
use Rattle.state.specs.Table.{objects_in}
use Rattle.state.specs.Columns.{front_numbers}
use Rattle.state.proofs.place_of.Goals as goal

pub returns : goal.returns
returns c =
    let numbers : c.iter.result.rest.now ≡ map Object.number (objects_in c.args.table.now) = search (rules, front_numbers) in
    position_from_yields_List _ _ _ _ c.position.ensures.ran
    (YieldsList-from_slice (map Object.number (objects_in c.args.table.now)) numbers) (λ x b q k. search (rules, tests))
