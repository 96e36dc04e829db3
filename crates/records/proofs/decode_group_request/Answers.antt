-- The test on the bytes, either way.
use Rattle.std.proofs.Common.{◌≡◌, ◌∙◌, ap, refl, Bool, cond, true, false, Ok, Err}
use Rattle.rules.specs.declared.Request.{Request}
use Rattle.rules.specs.declared.refusal.Refusal.TheVariants.{WrongRecord}
use Rattle.records.specs.Answers.{group_request_answer}
use Rattle.records.specs.Coding.{group_request_decoded, request_told}
use Rattle.records.proofs.decode_group_request.Goals as goal

either : (b : Bool) (r : Request)
    → group_request_answer (cond b (Err WrongRecord) (Ok r)) ≡ cond b (group_request_answer (Err WrongRecord)) (group_request_answer (Ok r))
either true r = refl
either false r = refl

pub returns : goal.returns
unfolding group_request_decoded request_told
returns c = c.from.ensures ∙ ap group_request_answer c.request_in.ensures ∙ either _ _
