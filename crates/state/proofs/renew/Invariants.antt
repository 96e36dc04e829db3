-- The first i objects are renewed, and all else is as it was (renewed_one, renewed_none).
use lib.ListN.{take}
use Rattle.lemmas.specs.Lists.{change}
use Rattle.rules.specs.declared.Object.{Object}
use Rattle.rules.specs.Operations.{with_version}
use Rattle.state.specs.Table.{places}
use Rattle.state.specs.Changes.{HasContent, content_with_front}
use Rattle.state.proofs.renew.Given as goal

abbrev pub invariant-loop-i : goal.invariant-loop-i
invariant-loop-i l = HasContent l.initial.table l.table (content_with_front (change Object.number l.number (with_version l.version) (take l.i (places l.initial.table))) l.initial.table)
