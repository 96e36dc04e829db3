-- What is written is the last line, for which there is room.
use Rattle.std.proofs.Common.{◌≡◌, subst, cond, List, ℕ, ◌+◌, ◌≤◌, length, refl, arith}
use Rattle.rules.specs.Program.{ended, cut}
use Rattle.lines.specs.Text.{last_text, TextPut}
use Rattle.lines.specs.Placed.{text_put_lem}
use Rattle.logged.specs.Log.{Added}
use Rattle.gate.specs.Lines.{last_short}
use Rattle.gate.proofs.finish.Goals as goal
use Rattle.gate.proofs.finish.Goals.{then-ended, else-ended}

pub returns : goal.returns
returns c =
    let a = c.args in
    let t : List ℕ = cond a.ended (ended a.calls) (cut a.calls) in
    let fits : 0 + length t ≤ length a.out.now = omega (arith, c.requires, last_short a.ended a.calls) in
    let is : last_text c.if-ended.last a.calls ≡ t =
    elim c.if-ended.branch [
      | then-ended w ↦ rw (w.last-is, w.if-ended.true) refl
      | else-ended w ↦ rw (w.last-is, w.if-ended.false) refl
    ] in
    let put : TextPut a.out.now 0 t c.put_last-n.result c.put_last-n.new.space =
    subst (λ (x : List ℕ). TextPut a.out.now 0 x c.put_last-n.result c.put_last-n.new.space) is c.put_last-n.ensures in
    subst (λ (x : List ℕ). Added a.outlog.now a.at.now x c.write.new.log c.write.new.at)
    (text_put_lem a.out.now 0 t c.put_last-n.result c.put_last-n.new.space fits put)
    c.write.ensures
