-- The shape first; at level 2 a reply of the right shape has a digest behind its result.
use mathlib.Core.Path.{sym, ap, ◌∙◌}
use Prim.Native.Nat.{ℕ, ◌+◌}
use borrow.Author.Tests.{eq-eqb, ne_eqb}
use Rattle.rules.specs.Frame.{digest_size}
use Rattle.rules.specs.Operations.{head_size}
use Rattle.reply_check.specs.Shape.{wrong_reply}
use Rattle.reply_check.specs.CheckLaws.{shape-length, sealed-length}
use Rattle.reply_check.proofs.wrong_reply.Goals as goal

pub returns-then-wrong_shape : goal.returns-then-wrong_shape
unfolding wrong_reply
returns-then-wrong_shape c = rw (← c.wrong_shape.ensures, c.if-wrong_shape.true)

pub returns-then-r-ne2 : goal.returns-then-r-ne2
unfolding wrong_reply
returns-then-r-ne2 c = rw (sym c.wrong_shape.ensures ∙ c.if-wrong_shape.false, ne_eqb _ 2 c.if-r-ne2.true)

pub wrong_digest-requires : goal.wrong_digest-requires
wrong_digest-requires c =
    let a = c.args in
    shape-length a.reply.now a.r (sym c.wrong_shape.ensures ∙ c.if-wrong_shape.false) ∙ sealed-length a.r c.if-r-ne2.false
    ∙ ap (λ (n : ℕ). head_size + n + digest_size) (sym c.result_length.ensures)

pub returns : goal.returns
unfolding wrong_reply
returns c = rw (sym c.wrong_shape.ensures ∙ c.if-wrong_shape.false, eq-eqb _ 2 c.if-r-ne2.false, ← c.result_length.ensures) c.wrong_digest.ensures
