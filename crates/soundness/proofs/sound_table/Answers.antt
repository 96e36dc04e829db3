-- A table is sound where the tests of its columns pass (table-sound).
use Rattle.std.proofs.Common.{◌≡◌, ◌^◌, ◌<◌, ◌&&◌, ℕ, List, [], leb, get_or, ap, ◌∙◌, arith, rules, leb-true}
use Rattle.lemmas.specs.Tests.{and_l}
use Rattle.rules.specs.Drive.{most_objects}
use Rattle.state.specs.Table.{numbers_from, versions_from, sizes_from, starts_from, count_at}
use Rattle.state.specs.Columns.{column}
use Rattle.soundness.proofs.Table.{table-sound, column_at}
use Rattle.soundness.proofs.sound_table.Goals as goal

pub returns : goal.returns
returns c =
    let a = c.args in
    let t = a.table.now in
    let w = c.if-table-ne-TABLE.false in
    let small : a.quarter < 2 ^ 32 = search rules in
    let columns : List (List ℕ) = c.as_chunks.result.0.now in
    let front = c.as_chunks.ensures.front in
    let numbers : get_or columns 0 [] ≡ column t numbers_from most_objects
    = ap (λ (l : List (List ℕ)). get_or l 0 []) front ∙ column_at t w 0 [] (omega arith) in
    let versions : get_or columns 1 [] ≡ column t versions_from most_objects
    = ap (λ (l : List (List ℕ)). get_or l 1 []) front ∙ column_at t w 1 [] (omega arith) in
    let sizes : get_or columns 2 [] ≡ column t sizes_from most_objects
    = ap (λ (l : List (List ℕ)). get_or l 2 []) front ∙ column_at t w 2 [] (omega arith) in
    let starts : get_or columns 3 [] ≡ column t starts_from most_objects
    = ap (λ (l : List (List ℕ)). get_or l 3 []) front ∙ column_at t w 3 [] (omega arith) in
    let ends = rw (starts, sizes) at c.ends_of-ends.ensures in
    let count = leb (get_or t count_at 0) most_objects in (
      rw (c.all_sound.ensures, c.all_clear.ensures, numbers, versions, starts)
          (table-sound a.quarter small t w c.ends_of-ends.result ends.0 ends.1 c.min-n.result c.min-n.ensures),
      λ h. leb-true (get_or t count_at 0) most_objects (and_l count c.all_sound.result (and_l (count && c.all_sound.result) c.all_clear.result h)),
    )
