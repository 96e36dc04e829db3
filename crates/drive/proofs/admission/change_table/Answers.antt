-- The part lent is the data (the_payload).
use mathlib.Core.Path.{subst}
use mathlib.Core.List.{List}
use Prim.Native.Nat.{ℕ}
use Rattle.rules.specs.Needs.{needs_at}
use Rattle.state.specs.Changes.{ChangedTo}
use Rattle.partition.specs.Partition.{content_after}
use Rattle.drive.proofs.Frames.{the_payload}
use Rattle.drive.proofs.admission.change_table.Goals as goal

pub returns : goal.returns
returns c =
    let a = c.args in
    subst (λ (y : List ℕ). ChangedTo a.table.now c.apply.new.table
    (content_after a.p.request.operation a.p.credential.object a.given.next_version a.given.new_start (needs_at y) a.table.now))
    (the_payload c.requires) c.apply.ensures
