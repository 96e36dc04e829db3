-- The digest of a message taken in one part, by the laws of Keyed.
use mathlib.Core.List.{[]}
use Rattle.digest.specs.KeyedLaws.{keyed_none, keyed_more, finished-keyed}
use Rattle.digest.proofs.mac.of.Goals as goal

pub returns : goal.returns
returns c =
    let a = c.args in
    rw (c.finish.ensures, c.absorb.ensures, c.start.ensures)
    (finished-keyed _ a.key.now a.m.now (keyed_more _ _ [] (keyed_none a.key.now) a.m.now))
