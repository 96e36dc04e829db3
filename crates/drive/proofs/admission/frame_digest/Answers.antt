-- By the level.
use mathlib.Core.Path.{ap, ◌∙◌}
use mathlib.Core.List.{◌++◌, append_assoc}
use borrow.Author.Tests.{eq-eqb, ne_eqb}
use Rattle.digest.specs.Hmac.{hmac}
use Rattle.digest.specs.Mac.{mac_absorbed, mac_finished}
use Rattle.digest.specs.KeyedLaws.{keyed_more, finished-keyed}
use Rattle.rules.specs.Frame.{covered}
use Rattle.drive.proofs.admission.frame_digest.Goals as goal

pub returns-then-level-eq0 : goal.returns-then-level-eq0
unfolding covered
returns-then-level-eq0 c = λ k a b h. rw (eq-eqb c.args.level 0 c.if-level-eq0.true)
    (c.finish.ensures ∙ finished-keyed _ k (a ++ b) h)

pub returns : goal.returns
unfolding covered
returns c = λ k a b h.
    let s = c.args in
    rw (ne_eqb s.level 0 c.if-level-eq0.false)
    (c.finish-2.ensures ∙ ap mac_finished c.absorb.ensures
    ∙ finished-keyed (mac_absorbed s.hash s.payload.now) k (a ++ b ++ s.payload.now) (keyed_more s.hash k (a ++ b) h s.payload.now)
    ∙ ap (hmac k) (append_assoc a b s.payload.now))
