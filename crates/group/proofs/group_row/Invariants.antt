-- `group::group_row` meets its contract: the list is walked to its end.
use mathlib.Core.List.{map}
use Rattle.std.specs.Int.{w32, from_be_bytes}
use Rattle.group.specs.GroupRow.{Walked}
use Rattle.group.proofs.group_row.Given as goal

abbrev pub invariant-loop-place : goal.invariant-loop-place
invariant-loop-place l = Walked (map (from_be_bytes w32) l.places) l.member l.place-index l.last l.found
