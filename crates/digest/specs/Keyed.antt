-- What the struct of a message taken part by part under a key holds, after the bytes m in all.
use Rattle.std.specs.Prelude.{List, ◌++◌, ℕ}
use Rattle.sha256_stream.specs.Absorbed.{Absorbed}
use Rattle.digest.specs.declared.mac.Mac.{Mac}
use Rattle.digest.specs.Hmac.{xored, key_block, ipad, opad}

-- a keyed hash under the key k
pub record Keyed (a : Mac) (k m : List ℕ) : Type 0 where
  pub inner : Absorbed a.inner (xored ipad (key_block k) ++ m)
  pub outer : Absorbed a.outer (xored opad (key_block k))
