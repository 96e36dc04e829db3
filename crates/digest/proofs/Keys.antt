-- The key as a block: laws of a definition of RFC 2104.
use mathlib.Core.Path.{◌≡◌}
use mathlib.Core.List.{List, ◌++◌}
use Prim.Native.Nat.{ℕ, ◌+◌, ◌-◌, ◌≤◌, ◌<◌}
use native.Mathlib.Omega.{arith}
use borrow.Author.Tests.{le-leb, le-ltb, lt-ltb}
use lib.ListN.{length, replicate}
use Rattle.lemmas.specs.Fill.{splice-replicate}
use Rattle.octets.specs.Numbers.{bytes_put}
use Rattle.sha256_block.specs.Sha256.{sha256}
use Rattle.digest.specs.Hmac.{key_block}
use Rattle.digest.specs.DigestLaws.{length-sha256}

-- bytes at the start of a block of zeros
filled : (k : List ℕ) → length k ≤ 64 → bytes_put (replicate 64 0) 0 k ≡ k ++ replicate (64 - length k) 0
filled k h = rw (le-leb (0 + length k) 64 (omega arith)) (splice-replicate k 64 0 h)

-- a key of up to 64 bytes
pub key_short : (k : List ℕ) → length k ≤ 64 → bytes_put (replicate 64 0) 0 k ≡ key_block k
unfolding key_block
key_short k h = rw (le-ltb 64 (length k) h) (filled k h)

-- a longer key, hashed
pub key_long : (k : List ℕ) → 64 < length k → bytes_put (replicate 64 0) 0 (sha256 k) ≡ key_block k
unfolding key_block
key_long k h = rw (lt-ltb 64 (length k) h) (filled (sha256 k) (omega (arith, length-sha256 k)))
