-- What is left of the reply is its digest.
use mathlib.Core.Path.{◌≡◌, ap, ◌∙◌}
use mathlib.Core.Bool.{not}
use mathlib.Core.List.{append_assoc}
use Prim.Native.Nat.{ℕ, ◌-◌}
use native.Mathlib.Omega.{arith}
use lib.ListN.{length, take, drop}
use Rattle.digest.specs.Hmac.{hmac}
use Rattle.rules.specs.Frame.{digest_size}
use Rattle.lemmas.specs.Lists.{part, same}
use Rattle.reply_check.proofs.wrong_digest.Goals as goal

pub returns : goal.returns
unfolding part
returns c =
    let a = c.args in
    let right = c.of3-right.result in
    let e : length a.reply.now - a.n ≡ digest_size = omega arith in
    ap not
    (c.same.ensures
    ∙ ap (λ (k : ℕ). same (take k (drop a.n a.reply.now)) right) e
    ∙ ap (same (take digest_size (drop a.n a.reply.now)))
    (c.of3-right.ensures ∙ ap (hmac a.key.now) (append_assoc a.credential.now a.request.now (take a.n a.reply.now))))
