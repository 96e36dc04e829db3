-- The pending bytes are where they were, or have moved, and what the read brought stands behind them.
use Rattle.std.proofs.Common.{refl, List, ℕ, ◌+◌, ◌-◌, ◌≤◌, length, take, drop, length-take, arith}
use Rattle.logged.specs.Log.{count_of}
use Rattle.reader.specs.Arrivals.{room-made, read_none, read_some}
use Rattle.reader.proofs.Intake.read_behind.Goals as goal

-- what the read brought is no more than the room
fewer : (buf : List ℕ) (to n count : ℕ) → count ≤ length (take (to + n - to) (drop to buf)) → count ≤ n
fewer buf to n count h = omega (arith, h, length-take (to + n - to) (drop to buf))

pub returns-then-room-eq0 : goal.returns-then-room-eq0
returns-then-room-eq0 c =
    let a = c.args in
    let p = c.make_room.new.self in
    let buf : List ℕ = c.make_room.new.input in
    let made = room-made a.self.now a.input.now p buf c.requires.0 c.make_room.ensures in
    read_none a.self.now p a.input.now a.inlog.now buf _ made c.requires.2 refl

pub returns : goal.returns
returns c =
    let a = c.args in
    let p = c.make_room.new.self in
    let buf : List ℕ = c.make_room.new.input in
    let made = room-made a.self.now a.input.now p buf c.requires.0 c.make_room.ensures in
    let n : ℕ = c.min-room.result in
    let few = fewer buf p.to n (count_of c.read-got.result) c.read-got.ensures.0 in
    let new : List ℕ = c.read-got.new.space in
    read_some a.self.now p a.input.now a.inlog.now buf new (drop (p.to + n - p.to) (drop p.to buf))
    c.read-got.result c.read-got.new.at c.after_read.new.self c.read-got.new.log made
    (omega (arith, c.read-got.ensures.0)) (omega (arith, few, c.min-room.ensures))
    c.read-got.ensures.1 c.after_read.ensures
