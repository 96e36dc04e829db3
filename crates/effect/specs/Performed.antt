-- The medium after a granted operation is the rules' medium after it.
-- s: the scope. x: the frame's fields. m: the medium. n: the number of the object that the frame reaches. k: where the
-- operation works.
use Rattle.std.specs.Prelude.{◌≡◌, refl, List, ℕ, ◌+◌, ◌≤◌, length}
use Rattle.std.proofs.Common.{le-leb}
use Rattle.rules.specs.declared.Credential.{Credential}
use Rattle.rules.specs.declared.Object.{Object}
use Rattle.rules.specs.declared.Operation.{Operation}
use Rattle.rules.specs.declared.Operation.TheVariants.{Read, Write, Look, Raise, Create, Delete, SetKey, LoadTable}
use Rattle.rules.specs.Frame.{Fields, target_of}
use Rattle.rules.specs.Scope.{Scope}
use Rattle.rules.specs.Operations.{
  object_of,
  present_version,
  size_of,
  quarter_start,
  extent_start,
  placement_start,
  next_version,
  perform,
}
use Rattle.effect.specs.declared.GrantContext.{GrantContext}
use Rattle.effect.specs.Effect.{object_start, medium_after}

-- k is where operation o of a credential c works in the scope s, on object n
pub record ContextFits (o : Operation) (s : Scope Object) (c : Credential) (n : ℕ) (k : GrantContext) : Type 0 where
  pub quarter : k.quarterstart ≡ quarter_start s c
  pub start : object_start k ≡ extent_start s c n
  pub size : k.size ≡ (object_of s n).size
  pub looksize : k.looksize ≡ size_of s n
  pub version : k.version ≡ present_version s n
  pub raised : o ≡ Raise → k.nextversion ≡ next_version s.partition
  pub created : (number size : ℕ) → o ≡ Create number size → k.nextversion ≡ next_version s.partition
  pub placed : (number size : ℕ) → o ≡ Create number size → k.newstart ≡ placement_start s size

-- the number of the object that the frame reads, writes or looks at
abbrev pub reached_by : Fields → ℕ
reached_by x = target_of x.cred x.req

-- the bytes that operation o reads, writes or clears are in its object, and on the medium
pub record BytesFit (o : Operation) (s : Scope Object) (x : Fields) (m : List ℕ) : Type 0 where
  pub read : (a b : ℕ) → o ≡ Read a b → extent_start s x.cred (reached_by x) + a + b ≤ length m
  pub extent : (a b : ℕ) → o ≡ Write a b
      → extent_start s x.cred (reached_by x) + (object_of s (reached_by x)).size ≤ length m
  pub written : (a b : ℕ) → o ≡ Write a b → a + length x.payload ≤ (object_of s (reached_by x)).size
  pub cleared : (number size : ℕ) → o ≡ Create number size
      → quarter_start s x.cred + placement_start s size + size ≤ length m

pub medium_is : (o : Operation) (s : Scope Object) (x : Fields) (m : List ℕ) (k : GrantContext)
    → ContextFits o s x.cred (reached_by x) k → BytesFit o s x m → medium_after o k x.payload m ≡ (perform o s x m).medium
unfolding perform
medium_is (Read a b) s x m k w fit = refl
medium_is (Write a b) s x m k w fit = rw (
  w.start,
  w.size,
  le-leb (extent_start s x.cred (reached_by x) + (object_of s (reached_by x)).size) (length m) (fit.extent a b refl),
  le-leb (a + length x.payload) (object_of s (reached_by x)).size (fit.written a b refl),
) refl
medium_is Look s x m k w fit = refl
medium_is Raise s x m k w fit = refl
medium_is (Create number size) s x m k w fit = rw (
  w.quarter,
  w.placed number size refl,
  le-leb (quarter_start s x.cred + placement_start s size + size) (length m) (fit.cleared number size refl),
) refl
medium_is Delete s x m k w fit = refl
medium_is (SetKey target) s x m k w fit = refl
medium_is LoadTable s x m k w fit = refl
