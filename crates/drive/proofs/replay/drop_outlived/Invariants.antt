-- The first m memories are without outlived entries (front-map, purged_at); the places of a memory are one part of each array.
use mathlib.Core.Path.{◌≡◌}
use mathlib.Core.List.{map}
use lib.ListN.{take}
use Rattle.lemmas.specs.Lists.{keep}
use Rattle.lemmas.specs.Fronts.{with_front}
use Rattle.rules.specs.Drive.{lives}
use Rattle.memory.specs.Memory.{entries_in}
use Rattle.drive.specs.View.{memories_in, MemoriesFit}
use Rattle.drive.proofs.replay.drop_outlived.Given as goal

abbrev pub invariant-loop-m : goal.invariant-loop-m
invariant-loop-m l = let old = memories_in l.initial.lengths (entries_in l.initial.entries l.initial.times) in
    MemoriesFit l.lengths l.entries l.times
    × (memories_in l.lengths (entries_in l.entries l.times) ≡ with_front (map (keep (lives l.mark)) (take l.m old)) old)
