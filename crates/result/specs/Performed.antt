-- The result that a granted operation puts into the reply is the rules' result.
-- s: the scope. x: the frame's fields. m: the medium. k: where the operation works. r: the reply space.
use Rattle.std.specs.Prelude.{◌≡◌, refl, List, ◌++◌, ℕ, ◌+◌, ◌≤◌, length}
use Rattle.std.proofs.Common.{sym, ◌∙◌, arith, length-append, le-leb}
use Rattle.lemmas.specs.Lists.{splice}
use Rattle.lemmas.specs.Parts.{length_part, length-splice}
use Rattle.lemmas.specs.Layout.{splice_after_size, splice_none}
use Rattle.lemmas.specs.BigEndian.{big_endian, length-big_endian}
use Rattle.octets.specs.Numbers.{number_put}
use Rattle.rules.specs.declared.Object.{Object}
use Rattle.rules.specs.declared.Operation.{Operation}
use Rattle.rules.specs.declared.Operation.TheVariants.{Read, Write, Look, Raise, Create, Delete, SetKey, LoadTable}
use Rattle.rules.specs.Frame.{Fields}
use Rattle.rules.specs.Scope.{Scope}
use Rattle.rules.specs.Operations.{extent_start, present_version, size_of, next_version, perform, head_size}
use Rattle.effect.specs.declared.GrantContext.{GrantContext}
use Rattle.effect.specs.Performed.{ContextFits, BytesFit, reached_by}
use Rattle.result.specs.Result.{result_put}

-- a number of four bytes that fits
put_number : (r : List ℕ) (i v : ℕ) → i + length (big_endian 4 v) ≤ length r
    → number_put r i 4 v ≡ splice r i (big_endian 4 v)
put_number r i v h = rw (le-leb (i + 4) (length r) (omega (arith, length-big_endian 4 v))) refl

pub result_is : (o : Operation) (s : Scope Object) (x : Fields) (m : List ℕ) (k : GrantContext)
    → ContextFits o s x.cred (reached_by x) k → BytesFit o s x m → (r : List ℕ)
    → head_size + length (perform o s x m).result ≤ length r
    → result_put o k m r ≡ splice r head_size (perform o s x m).result
unfolding perform
result_is (Read a b) s x m k w fit r h =
    let i = fit.read a b refl in
    let n = length_part m (extent_start s x.cred (reached_by x) + a) b i in
    let j = le-leb (head_size + b) (length r) (omega arith) in
    rw (w.start, le-leb (extent_start s x.cred (reached_by x) + a + b) (length m) i, j) refl
result_is (Write a b) s x m k w fit r h = sym (splice_none r head_size)
result_is Look s x m k w fit r h =
    let a : List ℕ = big_endian 4 (size_of s (reached_by x)) in
    let b : List ℕ = big_endian 4 (present_version s (reached_by x)) in
    let la : length a ≡ 4 = length-big_endian 4 (size_of s (reached_by x)) in
    let lb : length b ≡ 4 = length-big_endian 4 (present_version s (reached_by x)) in
    let lab : length (a ++ b) ≡ length a + length b = length-append a b in
    let l : length (splice r head_size a) ≡ length r = length-splice r a head_size (omega arith) in
    rw (w.looksize, w.version, put_number r head_size (size_of s (reached_by x)) (omega arith))
    (put_number (splice r head_size a) (head_size + 4) (present_version s (reached_by x)) (omega arith)
    ∙ splice_after_size r a b head_size (head_size + 4) (omega arith) (omega arith))
result_is Raise s x m k w fit r h = rw (w.raised refl) (put_number r head_size (next_version s.partition) h)
result_is (Create number size) s x m k w fit r h =
    rw (w.created number size refl) (put_number r head_size (next_version s.partition) h)
result_is Delete s x m k w fit r h = sym (splice_none r head_size)
result_is (SetKey target) s x m k w fit r h = sym (splice_none r head_size)
result_is LoadTable s x m k w fit r h = sym (splice_none r head_size)
