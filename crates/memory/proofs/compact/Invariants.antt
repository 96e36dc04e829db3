-- The entries that live of the first i are at the front, k of them, and behind them all is as it was (entry_kept,
-- entry_dropped).
use Rattle.std.proofs.Common.{◌≡◌, ◌*◌, ◌≤◌, length, take, drop}
use Rattle.lemmas.specs.Lists.{keep}
use Rattle.lemmas.specs.Fronts.{with_front}
use Rattle.rules.specs.Drive.{lives}
use Rattle.memory.specs.Memory.{entry_size, entries_in}
use Rattle.memory.proofs.compact.Given as goal

abbrev pub invariant-loop-i : goal.invariant-loop-i
invariant-loop-i l = let all = entries_in l.initial.entries l.initial.times in
    (l.k ≤ l.i) × (length l.entries ≡ length l.initial.entries) × (length l.times ≡ length l.initial.times)
    × (entries_in l.entries l.times ≡ with_front (keep (lives l.mark) (take l.i all)) all)
    × (l.k ≡ length (keep (lives l.mark) (take l.i all)))
    × (drop (entry_size * l.k) l.entries ≡ drop (entry_size * l.k) l.initial.entries) × (drop l.k l.times ≡ drop l.k l.initial.times)
