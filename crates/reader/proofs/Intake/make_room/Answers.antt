-- The pending bytes are moved to the front.
use Rattle.std.proofs.Common.{◌≡◌, refl, sym, ap, ◌∙◌, List, ◌++◌, append_assoc, ℕ, ◌+◌, ◌-◌, length, take, drop, length-drop, length-take-le, arith}
use Rattle.lemmas.specs.Lists.{part, splice}
use Rattle.reader.proofs.Intake.make_room.Goals as goal

pub returns : goal.returns
unfolding part splice
returns c =
    let buf : List ℕ = c.args.input.now in
    let from : ℕ = c.args.self.now.from in
    let n : ℕ = c.args.self.now.to - from in
    let new : List ℕ = take n (drop from buf) in
    let long : length new ≡ n = length-take-le n (drop from buf) (omega (arith, c.requires.0, c.requires.1, length-drop from buf)) in
    let moved = c.copy_within.ensures.after
    ∙ append_assoc (take 0 buf) new (drop (0 + n) buf)
    ∙ ap (λ (k : ℕ). take 0 buf ++ (new ++ drop (0 + k) buf)) (sym long) in
    record { place = rw c.if-self-input.false refl; content = rw c.if-self-input.false moved }
