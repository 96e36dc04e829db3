-- The first m memories are without outlived entries (front-map, purged_at); the places of a memory are one part of each array.
use mathlib.Core.Path.{◌≡◌, refl, ◌∙◌}
use mathlib.Core.List.{List, [], map}
use Prim.Native.Nat.{ℕ, ◌+◌, ◌-◌, ◌*◌, ◌≤◌, ◌<◌}
use native.Mathlib.Omega.{arith}
use lib.ListN.{length, get_or, length-map}
use lib.Seq.{take_all}
use Rattle.lemmas.specs.Lists.{keep}
use Rattle.lemmas.specs.Fronts.{front-map, front_all}
use Rattle.rules.specs.declared.Entry.{Entry}
use Rattle.rules.specs.Drive.{lives, most_entries}
use Rattle.memory.specs.Memory.{memory_count, entry_size, entries_in}
use Rattle.drive.specs.View.{memories_in, MemoriesFit}
use Rattle.drive.proofs.Memories.{memories-length, short_at, purged_at, placed_still}
use borrow.Author.Rules.{rules}
use Rattle.drive.proofs.replay.drop_outlived.Goals as goal

pub loop-m-init : goal.loop-m-init
loop-m-init c = (c.requires, refl)

pub bounds-lengths-m : goal.bounds-lengths-m
bounds-lengths-m c =
    let f : MemoriesFit c.loop-m.lengths c.loop-m.entries c.loop-m.times = c.loop-m.invariant.0 in
    omega (arith, f.five)

pub loop-m-preserved : goal.loop-m-preserved
loop-m-preserved c =
    let l = c.loop-m in
    let a = c.args in
    let m : l.m < memory_count = omega arith in
    let h : get_or l.lengths l.m 0 ≤ most_entries = short_at l.lengths l.m l.invariant.0.short in
    let p = c.purge in
    let from : ℕ = most_entries * l.m in
    let end : ℕ = from + get_or l.lengths l.m 0 in
    let size : ℕ = end - from in
    let wide : ℕ = entry_size * end - entry_size * from in
    let whole : size ≡ get_or l.lengths l.m 0 = omega arith in
    let span : wide ≡ entry_size * size = omega arith in
    let old : List (List Entry) = memories_in a.lengths.now (entries_in a.entries.now a.times.now) in
    let five : length old ≡ memory_count = memories-length a.lengths.now (entries_in a.entries.now a.times.now) ∙ c.requires.five in
    let now : List (List Entry) = memories_in l.lengths (entries_in l.entries l.times) in (
      placed_still l.lengths l.entries l.times l.invariant.0 l.m m size wide whole span a.mark p.result p.new.entries p.new.times p.ensures,
      purged_at l.lengths l.entries l.times l.invariant.0 l.m m size wide whole span a.mark p.result p.new.entries p.new.times p.ensures
          ∙ front-map (keep (lives a.mark)) old now l.m [] (omega (arith, m)) l.invariant.1,
    )

pub returns : goal.returns
returns c =
    let l = c.loop-m in
    let a = c.args in
    let old : List (List Entry) = memories_in a.lengths.now (entries_in a.entries.now a.times.now) in
    let five : length old ≡ memory_count = memories-length a.lengths.now (entries_in a.entries.now a.times.now) ∙ c.requires.five in
    (l.invariant.1 ∙ rw (take_all l.m old (omega arith)) (front_all (map (keep (lives a.mark)) old) old (omega (arith, length-map old (keep (lives a.mark))))), l.invariant.0)

pub overflow_add-end : goal.overflow_add-end
overflow_add-end c =
    let l = c.loop-m in
    let h : get_or l.lengths l.m 0 ≤ most_entries = short_at l.lengths l.m l.invariant.0.short in
    let f : MemoriesFit l.lengths l.entries l.times = l.invariant.0 in search rules

pub overflow_mul-first : goal.overflow_mul-first
overflow_mul-first c =
    let l = c.loop-m in
    let h : get_or l.lengths l.m 0 ≤ most_entries = short_at l.lengths l.m l.invariant.0.short in
    let f : MemoriesFit l.lengths l.entries l.times = l.invariant.0 in search rules

pub overflow_mul-past : goal.overflow_mul-past
overflow_mul-past c =
    let l = c.loop-m in
    let h : get_or l.lengths l.m 0 ≤ most_entries = short_at l.lengths l.m l.invariant.0.short in
    let f : MemoriesFit l.lengths l.entries l.times = l.invariant.0 in search rules

pub offset_bounds-entries-first : goal.offset_bounds-entries-first
offset_bounds-entries-first c =
    let l = c.loop-m in
    let h : get_or l.lengths l.m 0 ≤ most_entries = short_at l.lengths l.m l.invariant.0.short in
    let f : MemoriesFit l.lengths l.entries l.times = l.invariant.0 in search rules

pub slice_bounds-purge-count : goal.slice_bounds-purge-count
slice_bounds-purge-count c =
    let l = c.loop-m in
    let h : get_or l.lengths l.m 0 ≤ most_entries = short_at l.lengths l.m l.invariant.0.short in
    let f : MemoriesFit l.lengths l.entries l.times = l.invariant.0 in search rules

pub slice_bounds-purge-start : goal.slice_bounds-purge-start
slice_bounds-purge-start c =
    let l = c.loop-m in
    let h : get_or l.lengths l.m 0 ≤ most_entries = short_at l.lengths l.m l.invariant.0.short in
    let f : MemoriesFit l.lengths l.entries l.times = l.invariant.0 in search rules

pub slice_bounds-purge-end : goal.slice_bounds-purge-end
slice_bounds-purge-end c =
    let l = c.loop-m in
    let h : get_or l.lengths l.m 0 ≤ most_entries = short_at l.lengths l.m l.invariant.0.short in
    let f : MemoriesFit l.lengths l.entries l.times = l.invariant.0 in search rules

pub offset_bounds-times-start : goal.offset_bounds-times-start
offset_bounds-times-start c =
    let l = c.loop-m in
    let h : get_or l.lengths l.m 0 ≤ most_entries = short_at l.lengths l.m l.invariant.0.short in
    let f : MemoriesFit l.lengths l.entries l.times = l.invariant.0 in search rules

pub slice_bounds-purge-count-in-loop-m : goal.slice_bounds-purge-count-in-loop-m
slice_bounds-purge-count-in-loop-m c =
    let l = c.loop-m in
    let h : get_or l.lengths l.m 0 ≤ most_entries = short_at l.lengths l.m l.invariant.0.short in
    let f : MemoriesFit l.lengths l.entries l.times = l.invariant.0 in search rules

pub slice_bounds-purge-start-in-loop-m : goal.slice_bounds-purge-start-in-loop-m
slice_bounds-purge-start-in-loop-m c =
    let l = c.loop-m in
    let h : get_or l.lengths l.m 0 ≤ most_entries = short_at l.lengths l.m l.invariant.0.short in
    let f : MemoriesFit l.lengths l.entries l.times = l.invariant.0 in search rules

pub slice_bounds-purge-end-in-loop-m : goal.slice_bounds-purge-end-in-loop-m
slice_bounds-purge-end-in-loop-m c =
    let l = c.loop-m in
    let h : get_or l.lengths l.m 0 ≤ most_entries = short_at l.lengths l.m l.invariant.0.short in
    let f : MemoriesFit l.lengths l.entries l.times = l.invariant.0 in search rules

pub bounds-lengths-m-in-loop-m : goal.bounds-lengths-m-in-loop-m
bounds-lengths-m-in-loop-m c =
    let f : MemoriesFit c.loop-m.lengths c.loop-m.entries c.loop-m.times = c.loop-m.invariant.0 in
    search rules
