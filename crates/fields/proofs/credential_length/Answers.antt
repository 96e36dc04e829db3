-- `fields::credential_length` meets its contract: there is one form so far.
use mathlib.Core.Path.{refl}
use Rattle.rules.specs.Frame.{credential_length}
use Rattle.fields.proofs.credential_length.Goals as goal

pub returns : goal.returns
unfolding credential_length
returns c = refl
