-- HMAC: RFC 2104, section 2, with SHA-256 for H, so B = 64 and L = 32 bytes. K is a key of any length, text a message.
use Rattle.std.specs.Prelude.{cond, List, ◌++◌, map, ℕ, ◌-◌, length, replicate}
use Rattle.std.specs.Int.Bits.{bit_xor}
use Rattle.lemmas.specs.Tests.{◌over◌}
use Rattle.sha256_block.specs.Sha256.{sha256}

-- keys longer than B bytes are first hashed using H
abbrev pub shortened : List ℕ → List ℕ
shortened K = cond (length K over 64) (sha256 K) K

-- (1) append zeros to the end of K to create a B byte string
unfoldable pub key_block : List ℕ → List ℕ
key_block K = shortened K ++ replicate (64 - length (shortened K)) 0

-- (2), (5) XOR the B byte string with ipad or opad: a byte repeated B times
unfoldable pub xored : ℕ → List ℕ → List ℕ
xored pad K = map (λ (b : ℕ). bit_xor b pad) K

abbrev pub ipad : ℕ
ipad = 0x36

abbrev pub opad : ℕ
opad = 0x5c

-- (3), (4), (6), (7): H(K XOR opad, H(K XOR ipad, text))
unfoldable pub hmac : List ℕ → List ℕ → List ℕ
hmac K text = sha256 (xored opad (key_block K) ++ sha256 (xored ipad (key_block K) ++ text))
