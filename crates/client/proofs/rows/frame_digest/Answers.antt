-- The three parts in a row are what is covered: `covered-records` at level 0, `covered_data` from level 1.
use mathlib.Core.Path.{◌∙◌}
use Rattle.client.proofs.ClientLaws.{covered-records, covered_data}
use Rattle.client.proofs.rows.frame_digest.Goals as goal

pub returns-then-level-eq0 : goal.returns-then-level-eq0
returns-then-level-eq0 c =
    let a = c.args in
    c.of3.ensures ∙ covered-records a.key.now a.credential.now a.request.now a.bytes.now a.level c.if-level-eq0.true

pub returns : goal.returns
returns c =
    let a = c.args in
    c.of3-2.ensures ∙ covered_data a.key.now a.credential.now a.request.now a.bytes.now a.level c.if-level-eq0.false
