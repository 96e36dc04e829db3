-- The test on what was read is the test on the request itself: `decoded_by`; a request of the mark has the length that the mark tells.
use Rattle.std.proofs.Common.{◌≡◌, ◌∙◌, ◌||◌, ap, sym, not, Bool, cond, false, true, List, [], ℕ, length, ne_eqb, Ok, Err}
use Rattle.lemmas.specs.Tests.{◌isnt◌}
use Rattle.rules.specs.declared.Request.{Request}
use Rattle.rules.specs.declared.refusal.Refusal.TheVariants.{WrongRecord}
use Rattle.rules.specs.Frame.{request_at, request_length, request_of}
use Rattle.rules.proofs.Refused.{handed_on, passed_tells, refused_tells}
use Rattle.fields.specs.Records.{request_in}
use Rattle.records.specs.Coding.{request_told, request_unmarked, size_by}
use Rattle.records.proofs.DecodeLaws.{by_mark, decoded_by, request_long}
use Rattle.records.proofs.request_in.Goals as goal

decoded : (s : List ℕ) (magic : ℕ) → (magic ≡ 0 → ⊥) → (x : Request) → x ≡ request_in s 0 → (b : Bool)
    → (length s isnt request_length x || request_unmarked magic x) ≡ b
    → cond b (Err WrongRecord) (Ok x) ≡ request_told magic s
unfolding request_told
decoded s magic some x e b t =
    decoded_by s (size_by magic) (request_length (request_at s 0)) (request_at s 0) (request_of []) (request_unmarked magic)
    (Err WrongRecord) (λ y. Ok y) (request_long magic (request_at s 0)) (ap not (ne_eqb 0 magic (λ z. some (sym z))))
    x e b (sym (by_mark (length s) magic x) ∙ t)

pub returns-in_err-refuse : goal.returns-in_err-refuse
returns-in_err-refuse c =
    let told = refused_tells _ _ _ c.in_err-refuse.ensures in
    rw (handed_on c.from_residual.result _ c.from_residual.ensures.1, told.1)
    (decoded c.args.bytes.now c.args.magic c.requires c.request_in-q.result c.request_in-q.ensures true (rw (← c.request_length.ensures) told.0))

pub returns : goal.returns
returns c =
    decoded c.args.bytes.now c.args.magic c.requires c.request_in-q.result c.request_in-q.ensures false
    (rw (← c.request_length.ensures) (passed_tells _ _ _ c.in_ok-refuse.ensures))
