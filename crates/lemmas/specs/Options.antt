-- The code's Option as the definitions' own.
use Rattle.std.specs.Prelude.{Option, None, Some}
use Rattle.std.proofs.Math.Option as maybe

-- what an answer says: a value, or none
abbrev pub option_of : {A : Type 0} → Option A → maybe.Option A
option_of None = maybe.none
option_of (Some x) = maybe.some x
