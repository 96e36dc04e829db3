-- A refusal by `issue-refused`; a grant writes the credential, and its bytes give its key: `issue-granted`.
use Rattle.std.proofs.Common.{◌∙◌, ap, List, ℕ, sym, take}
use Rattle.std.proofs.Math.Seq.{length-take-le}
use Rattle.digest.specs.Hmac.{hmac}
use Rattle.rules.specs.Frame.{credential_size}
use Rattle.rules.proofs.Refused.{handed_on}
use Rattle.client.proofs.ClientLaws.{issue-granted, issue-refused, issue-room}
use Rattle.client.proofs.issue.Goals as goal

pub returns-in_err-issue_row : goal.returns-in_err-issue_row
returns-in_err-issue_row c =
    let a = c.args in
    rw (handed_on c.from_residual.result _ c.from_residual.ensures.1)
    (issue-refused a.c a.key.now a.space.now _ c.in_err-issue_row.ensures)

pub slice_bounds-of-end : goal.slice_bounds-of-end
slice_bounds-of-end c =
    let a = c.args in
    rw c.put_credential.ensures (issue-room a.c a.key.now a.space.now (sym c.in_ok-issue_row.ensures))

pub slice_bounds-of-end-2 : goal.slice_bounds-of-end-2
slice_bounds-of-end-2 c =
    let a = c.args in
    sym (length-take-le credential_size c.put_credential.new.space
    (rw c.put_credential.ensures (issue-room a.c a.key.now a.space.now (sym c.in_ok-issue_row.ensures))))

pub returns : goal.returns
returns c =
    let a = c.args in
    rw c.put_credential.ensures
    (issue-granted a.c a.key.now a.space.now _ (sym c.in_ok-issue_row.ensures)
    (c.of.ensures ∙ ap (λ (l : List ℕ). hmac a.key.now (take credential_size l)) c.put_credential.ensures))
