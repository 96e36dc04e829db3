-- The quick pass's answer where it is sure, else that of the exact one.
use Rattle.std.proofs.Common.{ℕ, ◌-◌, nat_lt, sym, ◌∙◌}
use Rattle.rules.specs.Drive.{time_window}
use Rattle.memory.specs.Entries.{some_any}
use Rattle.memory.proofs.stale.Goals as goal

pub returns-then-not-none_below : goal.returns-then-not-none_below
returns-then-not-none_below c =
    let a = c.args in
    rw c.floor_of-floor.ensures at c.any_below.ensures ∙ sym (some_any (λ (t : ℕ). nat_lt t (a.mark - time_window)) a.times.now)
