-- Of the first i objects those of other numbers are at the front, `left` of them (delete_kept, delete-passed).
use mathlib.Core.Path.{◌≡◌}
use Prim.Native.Nat.{◌≤◌}
use lib.ListN.{length, take}
use Rattle.lemmas.specs.Tests.{◌isnt◌}
use Rattle.lemmas.specs.Lists.{keep}
use Rattle.rules.specs.declared.Object.{Object}
use Rattle.state.specs.Table.{places}
use Rattle.state.specs.Changes.{HasContent, content_with_front}
use Rattle.state.proofs.delete.Given as goal

abbrev pub invariant-loop-i : goal.invariant-loop-i
invariant-loop-i l = (l.left ≤ l.i)
    × (HasContent l.initial.table l.table (content_with_front (keep (λ (a : Object). a.number isnt l.number) (take l.i (places l.initial.table))) l.initial.table))
    × (l.left ≡ length (keep (λ (a : Object). a.number isnt l.number) (take l.i (places l.initial.table))))
