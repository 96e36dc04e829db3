-- By the result's length; each number is all there.
use borrow.Author.Tests.{eqb-true, not-false}
use Rattle.rules.proofs.Refused.{handed_on, passed_tells, refused_tells}
use Rattle.records.specs.Coding.{version_decoded}
use Rattle.records.proofs.version_in.Goals as goal

pub returns-in_err-refuse : goal.returns-in_err-refuse
unfolding version_decoded
returns-in_err-refuse c =
    let told = refused_tells _ _ _ c.in_err-refuse.ensures in
    rw (handed_on c.from_residual.result _ c.from_residual.ensures.1, told.1, told.0)

pub returns : goal.returns
unfolding version_decoded
returns c = rw (c.number-version.ensures.0, eqb-true _ _ (not-false _ (passed_tells _ _ _ c.in_ok-refuse.ensures)))
