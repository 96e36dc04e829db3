use mathlib.Core.Path.{refl}
use Rattle.rules.specs.Frame.{entry}
use Rattle.wire.specs.Parse.{numbers_of}
use Rattle.judge.proofs.entry_of.Goals as goal

pub returns : goal.returns
unfolding entry numbers_of
returns c = rw c.from.ensures refl
