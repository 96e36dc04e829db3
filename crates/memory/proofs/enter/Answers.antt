-- The entry is put where there is such a place.
use Rattle.std.proofs.Common.{refl, arith}
use Rattle.memory.specs.Entries.{entries-count}
use Rattle.memory.proofs.enter.Goals as goal

pub returns-then-at-n : goal.returns-then-at-n
returns-then-at-n c =
    let a = c.args in
    let all = entries-count a.entries.now a.times.now in
    record { placed = λ h. c.put_entry.ensures; nowhere = λ h. absurd (omega (arith, all, c.whole_entries-n.ensures, c.if-at-n.true)) }

pub returns-else-at-n : goal.returns-else-at-n
returns-else-at-n c =
    let a = c.args in
    let all = entries-count a.entries.now a.times.now in
    record { placed = λ h. absurd (omega (arith, all, c.whole_entries-n.ensures, c.if-at-n.false)); nowhere = λ h. (refl, refl) }
