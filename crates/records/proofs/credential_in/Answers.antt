-- The test on what was read is the test on the credential itself: `decoded_by`.
use Rattle.std.proofs.Common.{◌≡◌, ◌||◌, refl, Bool, cond, false, true, List, [], ℕ, length, Ok, Err}
use Rattle.lemmas.specs.Tests.{◌isnt◌}
use Rattle.rules.specs.declared.Credential.{Credential}
use Rattle.rules.specs.declared.refusal.Refusal.TheVariants.{WrongRecord}
use Rattle.rules.specs.Frame.{credential_at, credential_length, credential_of, credential_size}
use Rattle.rules.proofs.Refused.{handed_on, passed_tells, refused_tells}
use Rattle.fields.specs.Records.{credential_in, credential_most}
use Rattle.records.specs.Answers.{credential_answer}
use Rattle.records.specs.Coding.{credential_decoded, credential_unmarked}
use Rattle.records.proofs.DecodeLaws.{decoded_by}
use Rattle.records.proofs.credential_in.Goals as goal

decoded : (s : List ℕ) (x : Credential) → x ≡ credential_in s 0 → (b : Bool) → (length s isnt credential_size || credential_unmarked x) ≡ b
    → cond b (credential_answer (Err WrongRecord)) (credential_answer (Ok x)) ≡ credential_decoded s
unfolding credential_decoded
decoded s =
    decoded_by s credential_size (credential_length (credential_at s 0)) (credential_at s 0) (credential_of []) credential_unmarked
    (credential_answer (Err WrongRecord)) (λ x. credential_answer (Ok x)) (λ e. credential_most (credential_at s 0)) refl

pub returns-in_err-refuse : goal.returns-in_err-refuse
returns-in_err-refuse c =
    let told = refused_tells _ _ _ c.in_err-refuse.ensures in
    rw (handed_on c.from_residual.result _ c.from_residual.ensures.1, told.1)
    (decoded c.args.bytes.now c.credential_in-c.result c.credential_in-c.ensures true told.0)

pub returns : goal.returns
returns c =
    decoded c.args.bytes.now c.credential_in-c.result c.credential_in-c.ensures false (passed_tells _ _ _ c.in_ok-refuse.ensures)
