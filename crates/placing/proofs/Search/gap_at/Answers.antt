-- The bytes from the place up to the next extent, where the first is in none and they take the extent (no_start, not_free, no_room, room).
use Rattle.std.proofs.Common.{sym, ◌∙◌, arith}
use Rattle.state.specs.Table.{objects_in}
use Rattle.placing.specs.Placing.{free_all, next_fold, no_start, not_free, no_room, room}
use Rattle.placing.proofs.Search.gap_at.Goals as goal
use Rattle.placing.proofs.Search.gap_at.Goals.{then-to-from-via-then-to-from, then-to-from-via-else-to-from+then-not-is_vacant}

pub returns-then-to-from : goal.returns-then-to-from
returns-then-to-from c =
    let a = c.args in
    let s = a.self in
    let end = rw c.starts-starts.ensures at c.end_from-to.ensures in
    elim c.then-to-from.branch [
      | then-to-from-via-then-to-from w ↦
          no_start s.step s.quarter s.size (objects_in s.table.now) a.from _
          (end ∙ sym (next_fold s.quarter (objects_in s.table.now) a.from)) w.if-to-from.true
      | then-to-from-via-else-to-from+then-not-is_vacant w ↦
          let free = rw (c.starts-starts.ensures, w.sizes.ensures) at w.is_vacant.ensures in
          not_free s.step s.quarter s.size (objects_in s.table.now) a.from _
          (free ∙ sym (free_all (objects_in s.table.now) a.from)) w.if-not-is_vacant.true
    ]

pub returns-then-from-start : goal.returns-then-from-start
returns-then-from-start c =
    let a = c.args in
    let s = a.self in
    let end = rw c.starts-starts.ensures at c.end_from-to.ensures in
    no_room s.step s.quarter s.size (objects_in s.table.now) a.from _ _
    (end ∙ sym (next_fold s.quarter (objects_in s.table.now) a.from)) c.first_multiple-start.ensures.0 (omega arith)

pub returns : goal.returns
returns c =
    let a = c.args in
    let s = a.self in
    let end = rw c.starts-starts.ensures at c.end_from-to.ensures in
    let free = rw (c.starts-starts.ensures, c.sizes.ensures) at c.is_vacant.ensures in
    room s.step s.quarter s.size (objects_in s.table.now) a.from _ _
    (end ∙ sym (next_fold s.quarter (objects_in s.table.now) a.from)) c.first_multiple-start.ensures.0 (omega arith)
    (free_all (objects_in s.table.now) a.from ∙ sym free ∙ c.if-not-is_vacant.false) (omega arith)
