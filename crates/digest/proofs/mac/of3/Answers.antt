-- The digest of a message taken in three parts, by the laws of Keyed.
use mathlib.Core.List.{[]}
use Rattle.digest.specs.KeyedLaws.{keyed_none, keyed_more, finished-keyed}
use Rattle.digest.proofs.mac.of3.Goals as goal

pub returns : goal.returns
returns c =
    let x = c.args in
    let one = keyed_more _ _ [] (keyed_none x.key.now) x.a.now in
    let two = keyed_more _ _ _ one x.b.now in
    rw (
      c.finish.ensures,
      c.absorb-3.ensures,
      c.absorb-2.ensures,
      c.absorb.ensures,
      c.start.ensures,
    )
    (finished-keyed _ _ _ (keyed_more _ _ _ two x.c.now))
