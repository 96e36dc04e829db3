-- A refusal by `build-refused`; a grant joins credential, request, data and digest: `build-granted`.
use Rattle.std.proofs.Common.{◌∙◌, ap, arith, sym}
use Rattle.digest.specs.Hmac.{hmac}
use Rattle.rules.specs.declared.Request.{Request}
use Rattle.rules.specs.Frame.{covered}
use Rattle.rules.proofs.RoundTrip.{frame-room}
use Rattle.rules.proofs.Refused.{handed_on}
use Rattle.client.proofs.ClientLaws.{build-granted, build-length, build-refused}
use Rattle.client.proofs.build.Goals as goal

pub returns-in_err-build_row : goal.returns-in_err-build_row
returns-in_err-build_row c =
    let a = c.args in
    rw (handed_on c.from_residual.result _ c.from_residual.ensures.1)
    (build-refused a.credential.now a.request.now a.bytes.now a.key.now a.space.now _ c.in_err-build_row.ensures)

pub join-requires : goal.join-requires
join-requires c =
    let a = c.args in
    let zero = sym c.in_ok-build_row.ensures in
    let long = build-length a.credential.now a.request.now a.bytes.now a.key.now a.space.now zero in
    omega (arith, long, frame-room a.credential.now a.request.now a.bytes.now a.key.now a.space.now zero)

pub returns : goal.returns
returns c =
    let a = c.args in
    build-granted a.credential.now a.request.now a.bytes.now a.key.now a.space.now _ c.frame_digest-digest.result _ (sym c.in_ok-build_row.ensures) c.join.ensures.0
    (c.frame_digest-digest.ensures
    ∙ ap (λ (r : Request). hmac a.key.now (covered r.level a.credential.now a.request.now a.bytes.now)) c.request_in-r.ensures)
    c.join.ensures.1
