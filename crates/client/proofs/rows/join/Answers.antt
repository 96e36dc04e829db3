-- Four copies, one behind the other, are one splice: `four-parts`.
use mathlib.Core.Path.{◌≡◌, refl}
use lib.ListN.{length}
use borrow.Author.Rules.{rules}
use Rattle.rules.specs.Frame.{digest_size}
use Rattle.client.proofs.ClientLaws.{four-parts}
use Rattle.client.proofs.rows.join.Goals as goal

pub returns : goal.returns
returns c =
    let a = c.args in
    let long : length a.digest.now ≡ digest_size = search rules in (
      refl,
      rw (
        c.copy_to-4.ensures,
        c.copy_to-3.ensures,
        c.copy_to-2.ensures,
        c.copy_to.ensures,
      )
          (four-parts a.space.now a.credential.now a.request.now a.bytes.now a.digest.now long c.requires),
    )
