-- The numbers from place ENTRY × i on are the i-th entry's (entries_at, get_d_part).
use Rattle.std.proofs.Common.{◌*◌, sym, refl, ◌∙◌, add-zero, arith}
use Rattle.lemmas.specs.Parts.{get_d_part}
use Rattle.memory.specs.Memory.{entry_size}
use Rattle.memory.specs.Entries.{entries-count, entries_at}
use Rattle.memory.proofs.entry_at.Goals as goal

pub returns : goal.returns
returns c =
    let a = c.args in
    let es = a.entries.now in
    let ts = a.times.now in
    let at = entry_size * a.i in
    c.entry_of.ensures ∙ sym (entries_at es ts a.i (omega (arith, c.requires.0, c.requires.1, entries-count es ts))
    ∙ rw (
      get_d_part es at entry_size 0 (omega arith),
      get_d_part es at entry_size 1 (omega arith),
      get_d_part es at entry_size 2 (omega arith),
      get_d_part es at entry_size 3 (omega arith),
      add-zero at,
    ) refl)
