-- The place in the best gap; the pass is best_fit (chosen_best).
use Rattle.std.proofs.Common.{◌≡◌, sym, ap, ◌∙◌, rules}
use Rattle.std.specs.Option.{option_map}
use Rattle.state.specs.Table.{objects_in}
use Rattle.placing.specs.declared.Gap.{Gap}
use Rattle.placing.specs.Placing.{chosen, chosen_best, start_of}
use Rattle.placing.proofs.best_fit.Goals as goal

pub returns : goal.returns
returns c =
    let a = c.args in
    let os = objects_in a.table.now in
    let start : c.map.result ≡ option_map Gap.start c.best_gap.result = search rules in
    start_of a.step (chosen a.step a.quarter os a.size) c.map.result (start ∙ ap (option_map Gap.start) c.best_gap.ensures)
    ∙ sym (chosen_best a.step a.quarter a.size os)
