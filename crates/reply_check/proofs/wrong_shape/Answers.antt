-- Another length is wrong whatever the head is (`shape-other`); of the right length, the head decides (`shape_same`).
use mathlib.Core.Path.{◌≡◌, sym, ◌∙◌}
use Prim.Native.Nat.{◌≤◌}
use native.Mathlib.Omega.{arith}
use lib.ListN.{length}
use lib.Seq.{length-take-le}
use Rattle.rules.specs.Operations.{head_size, reply_length}
use Rattle.reply_check.specs.CheckLaws.{shape-other, shape_same, head-within}
use Rattle.reply_check.proofs.wrong_shape.Goals as goal

pub returns-then-reply-reply_length : goal.returns-then-reply-reply_length
returns-then-reply-reply_length c =
    let a = c.args in
    shape-other a.reply.now a.r (λ e. c.if-reply-reply_length.true (e ∙ sym c.reply_length.ensures))

pub slice_bounds-same-end : goal.slice_bounds-same-end
slice_bounds-same-end c =
    let a = c.args in
    let right : length a.reply.now ≡ reply_length a.r = c.if-reply-reply_length.false ∙ c.reply_length.ensures in
    let within : head_size ≤ length a.reply.now = omega (arith, head-within a.reply.now a.r right) in
    sym (length-take-le head_size a.reply.now within)

pub returns : goal.returns
returns c =
    let a = c.args in
    rw (c.same.ensures, c.reply_head-head.ensures, c.result_length-n.ensures)
    (shape_same a.reply.now a.r (c.if-reply-reply_length.false ∙ c.reply_length.ensures))
