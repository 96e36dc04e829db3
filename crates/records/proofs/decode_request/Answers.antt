-- The test on the bytes, either way.
use Rattle.std.proofs.Common.{◌≡◌, ◌∙◌, ap, refl, Bool, cond, true, false, Ok, Err}
use Rattle.rules.specs.declared.Request.{Request}
use Rattle.rules.specs.declared.refusal.Refusal.TheVariants.{WrongRecord}
use Rattle.records.specs.Answers.{request_answer}
use Rattle.records.specs.Coding.{request_decoded, request_told}
use Rattle.records.proofs.decode_request.Goals as goal

either : (b : Bool) (r : Request)
    → request_answer (cond b (Err WrongRecord) (Ok r)) ≡ cond b (request_answer (Err WrongRecord)) (request_answer (Ok r))
either true r = refl
either false r = refl

pub returns : goal.returns
unfolding request_decoded request_told
returns c = c.from.ensures ∙ ap request_answer c.request_in.ensures ∙ either _ _
