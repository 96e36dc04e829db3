-- The memory's places are one part of each array (part_at), and what is held there is looked through.
use mathlib.Core.Path.{◌≡◌, ap, ◌∙◌}
use mathlib.Core.List.{List}
use Prim.Native.Nat.{ℕ, ◌+◌, ◌-◌, ◌*◌, ◌≤◌}
use native.Mathlib.Omega.{arith}
use lib.ListN.{get_or}
use Rattle.lemmas.specs.Lists.{some?}
use Rattle.rules.specs.declared.Entry.{Entry}
use Rattle.rules.specs.Drive.{most_entries, same_entry}
use Rattle.memory.specs.Memory.{entry_size}
use Rattle.drive.specs.View.{MemoriesFit}
use Rattle.drive.proofs.Memories.{short_at, part_at}
use borrow.Author.Rules.{rules}
use Rattle.drive.proofs.replay.is_replayed.Goals as goal

pub returns : goal.returns
returns c =
    let a = c.args in
    let from : ℕ = most_entries * a.k in
    let end : ℕ = from + get_or a.lengths.now a.k 0 in
    let size : ℕ = end - from in
    let wide : ℕ = entry_size * end - entry_size * from in
    let whole : size ≡ get_or a.lengths.now a.k 0 = omega arith in
    let span : wide ≡ entry_size * size = omega arith in
    c.holds.ensures
    ∙ ap (λ (l : List Entry). some? (same_entry a.nonce) l)
    (part_at a.lengths.now a.entries.now a.times.now c.requires.0 a.k c.requires.1 size wide whole span)

pub overflow_add-end : goal.overflow_add-end
overflow_add-end c =
    let a = c.args in
    let h : get_or a.lengths.now a.k 0 ≤ most_entries = short_at a.lengths.now a.k c.requires.0.short in
    let f : MemoriesFit a.lengths.now a.entries.now a.times.now = c.requires.0 in search rules

pub overflow_mul-first : goal.overflow_mul-first
overflow_mul-first c =
    let a = c.args in
    let h : get_or a.lengths.now a.k 0 ≤ most_entries = short_at a.lengths.now a.k c.requires.0.short in
    let f : MemoriesFit a.lengths.now a.entries.now a.times.now = c.requires.0 in search rules

pub overflow_mul-past : goal.overflow_mul-past
overflow_mul-past c =
    let a = c.args in
    let h : get_or a.lengths.now a.k 0 ≤ most_entries = short_at a.lengths.now a.k c.requires.0.short in
    let f : MemoriesFit a.lengths.now a.entries.now a.times.now = c.requires.0 in search rules

pub offset_bounds-entries-first : goal.offset_bounds-entries-first
offset_bounds-entries-first c =
    let a = c.args in
    let h : get_or a.lengths.now a.k 0 ≤ most_entries = short_at a.lengths.now a.k c.requires.0.short in
    let f : MemoriesFit a.lengths.now a.entries.now a.times.now = c.requires.0 in search rules

pub slice_bounds-holds-count : goal.slice_bounds-holds-count
slice_bounds-holds-count c =
    let a = c.args in
    let h : get_or a.lengths.now a.k 0 ≤ most_entries = short_at a.lengths.now a.k c.requires.0.short in
    let f : MemoriesFit a.lengths.now a.entries.now a.times.now = c.requires.0 in search rules

pub slice_bounds-holds-start : goal.slice_bounds-holds-start
slice_bounds-holds-start c =
    let a = c.args in
    let h : get_or a.lengths.now a.k 0 ≤ most_entries = short_at a.lengths.now a.k c.requires.0.short in
    let f : MemoriesFit a.lengths.now a.entries.now a.times.now = c.requires.0 in search rules

pub slice_bounds-holds-end : goal.slice_bounds-holds-end
slice_bounds-holds-end c =
    let a = c.args in
    let h : get_or a.lengths.now a.k 0 ≤ most_entries = short_at a.lengths.now a.k c.requires.0.short in
    let f : MemoriesFit a.lengths.now a.entries.now a.times.now = c.requires.0 in search rules

pub offset_bounds-times-start : goal.offset_bounds-times-start
offset_bounds-times-start c =
    let a = c.args in
    let h : get_or a.lengths.now a.k 0 ≤ most_entries = short_at a.lengths.now a.k c.requires.0.short in
    let f : MemoriesFit a.lengths.now a.entries.now a.times.now = c.requires.0 in search rules

pub slice_bounds-holds-count-2 : goal.slice_bounds-holds-count-2
slice_bounds-holds-count-2 c =
    let a = c.args in
    let h : get_or a.lengths.now a.k 0 ≤ most_entries = short_at a.lengths.now a.k c.requires.0.short in
    let f : MemoriesFit a.lengths.now a.entries.now a.times.now = c.requires.0 in search rules

pub slice_bounds-holds-start-2 : goal.slice_bounds-holds-start-2
slice_bounds-holds-start-2 c =
    let a = c.args in
    let h : get_or a.lengths.now a.k 0 ≤ most_entries = short_at a.lengths.now a.k c.requires.0.short in
    let f : MemoriesFit a.lengths.now a.entries.now a.times.now = c.requires.0 in search rules

pub slice_bounds-holds-end-2 : goal.slice_bounds-holds-end-2
slice_bounds-holds-end-2 c =
    let a = c.args in
    let h : get_or a.lengths.now a.k 0 ≤ most_entries = short_at a.lengths.now a.k c.requires.0.short in
    let f : MemoriesFit a.lengths.now a.entries.now a.times.now = c.requires.0 in search rules
