-- A digest has 32 bytes, whatever the key and the message.
use Rattle.std.specs.Prelude.{◌≡◌, refl, List, ◌++◌, ℕ, length}
use Rattle.lemmas.specs.BigEndian.{big_endian}
use Rattle.sha256_block.specs.Sha256.{sha256}
use Rattle.digest.specs.Hmac.{hmac, xored, key_block, ipad, opad}

pub length-sha256 : (m : List ℕ) → length (sha256 m) ≡ 32
unfolding sha256 big_endian
length-sha256 m = refl

pub length-hmac : (k m : List ℕ) → length (hmac k m) ≡ 32
unfolding hmac
length-hmac k m = length-sha256 (xored opad (key_block k) ++ sha256 (xored ipad (key_block k) ++ m))
