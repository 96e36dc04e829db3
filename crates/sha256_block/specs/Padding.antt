-- FIPS 180-4, 5.1.1, in its own words, as a statement about bits; and of messages of bytes that `pad` is that padding, and the padding
-- by cases the same. The theorem is `padded_message` (PaddingLaws).
use Rattle.std.specs.Prelude.{◌≡◌, ℕ, ◌+◌, ◌*◌, ◌%◌, ◌^◌, ◌<◌, List, ◌∷◌, ◌++◌, length, replicate, ◌≢◌}
use Rattle.lemmas.specs.Binary.{binary, spelled, in_bits}
use Rattle.sha256_block.specs.Sha256.{zero_bits, pad}
use Rattle.sha256_block.specs.PaddingCases.{pad_by_cases}

-- P is the message M, of l bits, padded with k zero bits
pub record Standard (M P : List ℕ) (k : ℕ) : Type 0 where
  -- "k is the smallest, non-negative solution to the equation l + 1 + k = 448 mod 512": it solves it, and nothing smaller does
  pub solves : (length M + 1 + k) % 512 ≡ 448
  pub smallest : (j : ℕ) → j < k → (length M + 1 + j) % 512 ≢ 448
  -- "Append the bit "1" to the end of the message, followed by k zero bits", "Then append the 64-bit block"
  pub appended : P ≡ M ++ 1 ∷ replicate k 0 ++ binary 64 (length M)
  -- "that is equal to the number l expressed using a binary representation"; a message has under 2 ^ 64 bits (section 1)
  pub number : length M < 2 ^ 64 → spelled (binary 64 (length M)) ≡ length M
  -- "The length of the padded message should now be a multiple of 512 bits."
  pub multiple : length P % 512 ≡ 0

-- of a message of bytes: the standard's padding, the same by cases, and a whole number of blocks. It is proved of every m; under
-- 2 ^ 61 bytes are under 2 ^ 64 bits
pub record PaddedMessage (m : List ℕ) : Type 0 where
  pub standard : Standard (in_bits m) (in_bits (pad m)) (zero_bits (8 * length m))
  pub by_cases : pad m ≡ pad_by_cases m
  pub whole-blocks : length (pad m) % 64 ≡ 0
