-- Published examples as theorems about the definitions themselves: the checker computes each. Of FIPS 180-4 the padding of
-- "abc" and the examples of one block and of two, of RFC 4231 case 2.
use mathlib.Core.Path.{◌≡◌, refl}
use mathlib.Core.List.{[], ◌∷◌, ◌++◌, map}
use Prim.Native.Nat.{ℕ}
use lib.ListN.{length, replicate}
use Rattle.lemmas.specs.BigEndian.{number_at, digit, big_endian}
use Rattle.lemmas.specs.Binary.{binary, spelled, bytes_made}
use Rattle.lemmas.specs.Tests.{first_from}
use Rattle.digest.specs.Sha256.{K, zero_bits, padding_bits, padding, pad, words, H₀, next, extend, schedule, round, rounds, added}
use Rattle.digest.specs.Sha256.{compress, blocks, sha256}
use Rattle.digest.specs.Hmac.{key_block, xored, hmac}
use Rattle.sha256_block.specs.PaddingCases.{zero_filled, one_block, two_blocks, pad_by_cases}

-- 5.1.1: the message "abc" is padded "with a one bit, then 448 - (24 + 1) = 423 zero bits, and then the message length"
pub abc_zero_bits : zero_bits 24 ≡ 423
unfolding first_from zero_bits
abc_zero_bits = refl

-- .. "to become the 512-bit padded message"
pub abc_padded : pad (0x61 ∷ 0x62 ∷ 0x63 ∷ []) ≡ 0x61 ∷ 0x62 ∷ 0x63 ∷ 0x80 ∷ replicate 59 0 ++ 24 ∷ []
unfolding digit big_endian binary spelled bytes_made first_from zero_bits padding_bits padding pad
abc_padded = refl

pub abc_by_cases : pad_by_cases (0x61 ∷ 0x62 ∷ 0x63 ∷ []) ≡ 0x61 ∷ 0x62 ∷ 0x63 ∷ 0x80 ∷ replicate 59 0 ++ 24 ∷ []
unfolding digit big_endian zero_filled one_block two_blocks pad_by_cases
abc_by_cases = refl

-- how long messages of 0, 55, 56, 63, 64, 119 and 120 bytes are when they are padded
pub padded-lengths :
    map (λ (n : ℕ). length (pad (replicate n 0))) (0 ∷ 55 ∷ 56 ∷ 63 ∷ 64 ∷ 119 ∷ 120 ∷ [])
    ≡ 64 ∷ 64 ∷ 128 ∷ 128 ∷ 128 ∷ 128 ∷ 192 ∷ []
unfolding digit big_endian binary spelled bytes_made first_from zero_bits padding_bits padding pad
padded-lengths = refl

-- "abc"
pub abc : sha256 (
    0x61 ∷ 0x62 ∷ 0x63 ∷ []) ≡
    0xba ∷ 0x78 ∷ 0x16 ∷ 0xbf ∷ 0x8f ∷ 0x01 ∷ 0xcf ∷ 0xea ∷ 0x41 ∷ 0x41 ∷ 0x40 ∷ 0xde ∷ 0x5d ∷ 0xae ∷ 0x22
    ∷ 0x23 ∷ 0xb0 ∷ 0x03 ∷ 0x61 ∷ 0xa3 ∷ 0x96 ∷ 0x17 ∷ 0x7a ∷ 0x9c ∷ 0xb4 ∷ 0x10 ∷ 0xff ∷ 0x61 ∷ 0xf2 ∷ 0x00
    ∷ 0x15 ∷ 0xad ∷ []
unfolding number_at digit big_endian binary spelled bytes_made first_from zero_bits padding_bits K padding pad words H₀ next extend schedule round rounds added compress blocks
    sha256
abc = refl

-- "abcdbcdecdefdefgefghfghighijhijkijkljklmklmnlmnomnopnopq"
pub two_blocks_lem : sha256 (
    0x61 ∷ 0x62 ∷ 0x63 ∷ 0x64 ∷ 0x62 ∷ 0x63 ∷ 0x64 ∷ 0x65 ∷ 0x63 ∷ 0x64 ∷ 0x65 ∷ 0x66 ∷ 0x64 ∷ 0x65 ∷ 0x66
    ∷ 0x67 ∷ 0x65 ∷ 0x66 ∷ 0x67 ∷ 0x68 ∷ 0x66 ∷ 0x67 ∷ 0x68 ∷ 0x69 ∷ 0x67 ∷ 0x68 ∷ 0x69 ∷ 0x6a ∷ 0x68 ∷ 0x69
    ∷ 0x6a ∷ 0x6b ∷ 0x69 ∷ 0x6a ∷ 0x6b ∷ 0x6c ∷ 0x6a ∷ 0x6b ∷ 0x6c ∷ 0x6d ∷ 0x6b ∷ 0x6c ∷ 0x6d ∷ 0x6e ∷ 0x6c
    ∷ 0x6d ∷ 0x6e ∷ 0x6f ∷ 0x6d ∷ 0x6e ∷ 0x6f ∷ 0x70 ∷ 0x6e ∷ 0x6f ∷ 0x70 ∷ 0x71 ∷ []) ≡
    0x24 ∷ 0x8d ∷ 0x6a ∷ 0x61 ∷ 0xd2 ∷ 0x06 ∷ 0x38 ∷ 0xb8 ∷ 0xe5 ∷ 0xc0 ∷ 0x26 ∷ 0x93 ∷ 0x0c ∷ 0x3e ∷ 0x60
    ∷ 0x39 ∷ 0xa3 ∷ 0x3c ∷ 0xe4 ∷ 0x59 ∷ 0x64 ∷ 0xff ∷ 0x21 ∷ 0x67 ∷ 0xf6 ∷ 0xec ∷ 0xed ∷ 0xd4 ∷ 0x19 ∷ 0xdb
    ∷ 0x06 ∷ 0xc1 ∷ []
unfolding number_at digit big_endian binary spelled bytes_made first_from zero_bits padding_bits K padding pad words H₀ next extend schedule round rounds added compress blocks
    sha256
two_blocks_lem = refl

-- key "Jefe", data "what do ya want for nothing?"
pub rfc4231_2 : hmac (0x4a ∷ 0x65 ∷ 0x66 ∷ 0x65 ∷ []) (
    0x77 ∷ 0x68 ∷ 0x61 ∷ 0x74 ∷ 0x20 ∷ 0x64 ∷ 0x6f ∷ 0x20 ∷ 0x79 ∷ 0x61 ∷ 0x20 ∷ 0x77 ∷ 0x61 ∷ 0x6e ∷ 0x74
    ∷ 0x20 ∷ 0x66 ∷ 0x6f ∷ 0x72 ∷ 0x20 ∷ 0x6e ∷ 0x6f ∷ 0x74 ∷ 0x68 ∷ 0x69 ∷ 0x6e ∷ 0x67 ∷ 0x3f ∷ []) ≡
    0x5b ∷ 0xdc ∷ 0xc1 ∷ 0x46 ∷ 0xbf ∷ 0x60 ∷ 0x75 ∷ 0x4e ∷ 0x6a ∷ 0x04 ∷ 0x24 ∷ 0x26 ∷ 0x08 ∷ 0x95 ∷ 0x75
    ∷ 0xc7 ∷ 0x5a ∷ 0x00 ∷ 0x3f ∷ 0x08 ∷ 0x9d ∷ 0x27 ∷ 0x39 ∷ 0x83 ∷ 0x9d ∷ 0xec ∷ 0x58 ∷ 0xb9 ∷ 0x64 ∷ 0xec
    ∷ 0x38 ∷ 0x43 ∷ []
unfolding number_at digit big_endian binary spelled bytes_made first_from zero_bits padding_bits K padding pad words H₀ next extend schedule round rounds added compress blocks
    sha256 key_block xored hmac
rfc4231_2 = refl
