-- The reply and the medium as their functions gave them.
use mathlib.Core.Path.{ap, ◌∙◌}
use mathlib.Core.List.{List}
use Prim.Native.Nat.{ℕ}
use Rattle.effect.specs.Effect.{medium_after}
use Rattle.drive.proofs.Frames.{the_payload}
use Rattle.drive.proofs.admission.grant.Goals as goal

pub returns : goal.returns
returns c =
    let a = c.args in (
      c.update_medium.ensures ∙ ap (λ (y : List ℕ). medium_after a.o a.context y a.medium.now) (the_payload c.requires),
      c.put_reply.ensures,
    )
