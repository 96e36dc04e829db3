-- Document 01, "Operations": the result of an operation, whether it fits or not.
-- k: where it works. m: the medium. r: the reply space.
use Rattle.std.specs.Prelude.{◌&&◌, cond, List, ℕ, ◌+◌, length, leb}
use Rattle.lemmas.specs.Lists.{part, splice}
use Rattle.octets.specs.Numbers.{number_put}
use Rattle.rules.specs.Operations.{head_size}
use Rattle.rules.specs.declared.Operation.{Operation}
use Rattle.rules.specs.declared.Operation.TheVariants.{Read, Write, Look, Raise, Create, Delete, SetKey, LoadTable}
use Rattle.effect.specs.declared.GrantContext.{GrantContext}
use Rattle.effect.specs.Effect.{object_start}

-- the reply space with the result after the head
abbrev pub result_put : Operation → GrantContext → List ℕ → List ℕ → List ℕ
result_put (Read a b) k m r =
    cond (leb (object_start k + a + b) (length m) && leb (head_size + b) (length r))
    (splice r head_size (part m (object_start k + a) b)) r
result_put (Write a b) k m r = r
result_put Look k m r = number_put (number_put r head_size 4 k.looksize) (head_size + 4) 4 k.version
result_put Raise k m r = number_put r head_size 4 k.nextversion
result_put (Create number size) k m r = number_put r head_size 4 k.nextversion
result_put Delete k m r = r
result_put (SetKey target) k m r = r
result_put LoadTable k m r = r
