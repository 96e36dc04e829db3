-- Document 01, the end of "Operations": the whole reply, whatever fits or does not.
-- h: a keyed hash, whatever it took. q: the request's numbers. n: how long the result is. c: where the operation works.
-- m: the medium. r: the reply space.
use Rattle.std.specs.Prelude.{cond, List, ℕ, ◌+◌, length, take, leb}
use Rattle.lemmas.specs.Tests.{◌is◌}
use Rattle.lemmas.specs.Lists.{splice}
use Rattle.digest.specs.declared.mac.Mac.{Mac}
use Rattle.digest.specs.Mac.{mac_absorbed, mac_finished}
use Rattle.rules.specs.declared.Request.{Request}
use Rattle.rules.specs.Frame.{digest_size}
use Rattle.rules.specs.Operations.{head, head_size}
use Rattle.octets.specs.Numbers.{bytes_put}
use Rattle.rules.specs.declared.Operation.{Operation}
use Rattle.effect.specs.declared.GrantContext.{GrantContext}
use Rattle.result.specs.Result.{result_put}

-- the digest that h gives once it has taken the first n bytes too, after these
abbrev pub seal_put : Mac → ℕ → List ℕ → List ℕ
seal_put h n r = cond (leb (n + digest_size) (length r)) (splice r n (mac_finished (mac_absorbed h (take n r)))) r

-- head and result; at level 2 the digest after them
abbrev pub result_reply : Request → ℕ → Operation → GrantContext → List ℕ → List ℕ → List ℕ
result_reply q n o c m r = result_put o c m (bytes_put r 0 (head q n))

abbrev pub reply_put : Mac → Request → ℕ → Operation → GrantContext → List ℕ → List ℕ → List ℕ
reply_put h q n o c m r =
    cond (q.level is 2) (seal_put h (head_size + n) (result_reply q n o c m r)) (result_reply q n o c m r)
