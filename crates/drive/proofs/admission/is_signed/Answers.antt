-- The parts of the frame are its slices.
use Rattle.rules.specs.Frame.{fields}
use Rattle.drive.proofs.Frames.{the_payload, the_digest}
use Rattle.drive.proofs.admission.is_signed.Goals as goal

pub returns : goal.returns
returns c = λ k h.
    let f = c.args.frame.now in
    let right = c.frame_digest-right.ensures k (fields f).credential (fields f).request h in
    rw (c.same.ensures, the_digest c.requires, right, the_payload c.requires)
