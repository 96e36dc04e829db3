-- What a keyed hash holds after a message taken part by part, and that its digest is HMAC's: each by the law of the hash below.
use Rattle.std.specs.Prelude.{◌≡◌, length}
use Rattle.std.proofs.Math.Path.{ap}
use Rattle.std.proofs.Common.{◌∙◌}
use mathlib.Core.List.{List, [], ◌++◌, append-nil, append_assoc}
use Prim.Native.Nat.{ℕ}
use Rattle.sha256_block.specs.Sha256.{sha256}
use Rattle.sha256_stream.specs.Stream.{started, absorbed, finished}
use Rattle.sha256_stream.specs.Absorbed.{Absorbed}
use Rattle.sha256_stream.proofs.AbsorbedLaws.{absorbed_none, absorbed_more, finished-absorbed, length-finished}
use Rattle.digest.specs.declared.mac.Mac.{Mac}
use Rattle.digest.specs.Hmac.{xored, key_block, ipad, opad, hmac}
use Rattle.digest.specs.Mac.{mac_started, mac_absorbed, mac_finished}
use Rattle.digest.specs.Keyed.{Keyed}

-- a keyed hash of no bytes has taken none
pub keyed_none : (k : List ℕ) → Keyed (mac_started k) k []
unfolding mac_started
keyed_none k =
    let taken : (b : List ℕ) → Absorbed (absorbed started b) b = absorbed_more started [] absorbed_none in
    record { inner = rw append-nil (taken (xored ipad (key_block k))); outer = taken (xored opad (key_block k)) }

module _ (a : Mac) (k m : List ℕ) (e : Keyed a k m) where
  -- one part more
  pub keyed_more : (p : List ℕ) → Keyed (mac_absorbed a p) k (m ++ p)
  unfolding mac_absorbed
  keyed_more p =
      record {
        inner = rw (← append_assoc) (absorbed_more a.inner (xored ipad (key_block k) ++ m) e.inner p);
        outer = e.outer;
      }

  -- the digest of the bytes taken, under the key
  pub finished-keyed : mac_finished a ≡ hmac k m
  unfolding mac_finished hmac
  finished-keyed =
      let o : List ℕ = xored opad (key_block k) in
      let t : finished a.inner ≡ sha256 (xored ipad (key_block k) ++ m) =
      finished-absorbed a.inner (xored ipad (key_block k) ++ m) e.inner in
      finished-absorbed (absorbed a.outer (finished a.inner)) (o ++ finished a.inner)
      (absorbed_more a.outer o e.outer (finished a.inner))
      ∙ ap (λ (d : List ℕ). sha256 (o ++ d)) t

-- a digest has 32 bytes, whatever the keyed hash holds
pub length_mac : (a : Mac) → length (mac_finished a) ≡ 32
unfolding mac_finished
length_mac a = length-finished (absorbed a.outer (finished a.inner))
