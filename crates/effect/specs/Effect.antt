-- Document 01, "Operations": the medium after an operation, whatever fits or does not.
-- k: where it works. m: the medium.
use Rattle.std.specs.Prelude.{◌&&◌, cond, List, ℕ, ◌+◌, length, replicate, leb}
use Rattle.lemmas.specs.Tests.{◌is◌}
use Rattle.lemmas.specs.Lists.{splice}
use Rattle.rules.specs.Drive.{last_version}
use Rattle.rules.specs.declared.Operation.{Operation}
use Rattle.rules.specs.declared.Operation.TheVariants.{Read, Write, Look, Raise, Create, Delete, SetKey, LoadTable}
use Rattle.effect.specs.declared.GrantContext.{GrantContext}

-- the next version, 0 after the last that there is
abbrev pub next_version_of : ℕ → ℕ
next_version_of last = cond (last is last_version) 0 (last + 1)

-- where the object starts on the medium
abbrev pub object_start : GrantContext → ℕ
object_start k = k.quarterstart + k.start

-- the medium with a write's bytes in its object, or a new extent cleared
abbrev pub medium_after : Operation → GrantContext → List ℕ → List ℕ → List ℕ
medium_after (Read a b) k bytes m = m
medium_after (Write a b) k bytes m =
    cond (leb (object_start k + k.size) (length m) && leb (a + length bytes) k.size)
    (splice m (object_start k + a) bytes) m
medium_after Look k bytes m = m
medium_after Raise k bytes m = m
medium_after (Create number size) k bytes m =
    cond (leb (k.quarterstart + k.newstart + size) (length m))
    (splice m (k.quarterstart + k.newstart) (replicate size 0)) m
medium_after Delete k bytes m = m
medium_after (SetKey target) k bytes m = m
medium_after LoadTable k bytes m = m
