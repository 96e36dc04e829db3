-- The part lent is the request and the data (request-and_data).
use mathlib.Core.Path.{ap, ◌∙◌}
use mathlib.Core.List.{List}
use Prim.Native.Nat.{ℕ}
use Rattle.set_key.specs.Keys.{keys_after}
use Rattle.drive.proofs.Frames.{request-and_data}
use Rattle.drive.proofs.admission.change_keys.Goals as goal

pub returns : goal.returns
returns c =
    let a = c.args in
    c.apply.ensures
    ∙ ap (λ (y : List ℕ). keys_after a.p.request.operation a.j a.p.credential.slot a.p.credential.partition y a.keys.now) (request-and_data c.requires)
