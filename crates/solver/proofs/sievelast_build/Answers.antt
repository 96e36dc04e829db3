-- The builder's own promise, in numbers.
use Rattle.std.proofs.Common.{◌∙◌}
use Rattle.solver.specs.Exported.{built_of, space_after}
use Rattle.solver.proofs.sievelast_build.Goals as goal

pub returns : goal.returns
unfolding built_of space_after
returns c =
    let m = c.build.ensures in
    (c.from.ensures ∙ (λ i. record { row = m.row i; length = m.length i }), m.space)
