-- What start, absorb and finish of the module mac make of a keyed hash, whatever it holds: RFC 2104, section 2, over the
-- hashes of sha256_stream. K is a key, a a keyed hash, p a part of a message.
use Rattle.std.specs.Prelude.{List, ℕ}
use Rattle.sha256_stream.specs.Stream.{started, absorbed, finished}
use Rattle.digest.specs.declared.mac.Mac.{Mac}
use Rattle.digest.specs.Hmac.{xored, key_block, ipad, opad}

-- a keyed hash of no bytes: a hash that took K XOR ipad, and one that took K XOR opad
unfoldable pub mac_started : List ℕ → Mac
mac_started K =
    record { inner = absorbed started (xored ipad (key_block K)); outer = absorbed started (xored opad (key_block K)) }

-- a with the part p taken
unfoldable pub mac_absorbed : Mac → List ℕ → Mac
mac_absorbed a p = record { inner = absorbed a.inner p; outer = a.outer }

-- its digest: the outer hash takes the digest of the inner one
unfoldable pub mac_finished : Mac → List ℕ
mac_finished a = finished (absorbed a.outer (finished a.inner))
