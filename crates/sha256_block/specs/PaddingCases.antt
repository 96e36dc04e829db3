-- Document 02, change 4, of FIPS 180-4, 5.1.1: the padding "by cases: a last block of 0 to 55 bytes, where the length field fits, and
-- of 56 to 63, where another follows". A message is whole blocks of 64 bytes and then a last block r of 0 to 63; l is its length in
-- bits. The length field is the eight bytes of l, and stands at the end of a block, from byte 56 on:
--
--   0 to 55 bytes, the length field fits:      | r  80  00 .. 00  length |
--   56 to 63 bytes, another block follows:     | r  80  00 ..         00 |  | 00 ..         00  length |
use Rattle.std.specs.Prelude.{ℕ, zero, suc, ◌*◌, ◌/◌, Bool, cond, List, [], ◌∷◌, ◌++◌, length, take, drop, nat_le}
use Rattle.lemmas.specs.BigEndian.{big_endian}

-- n bytes: s, and zeros behind it
unfoldable pub zero_filled : ℕ → List ℕ → List ℕ
zero_filled zero s = []
zero_filled (suc n) [] = 0 ∷ zero_filled n []
zero_filled (suc n) (b ∷ s) = b ∷ zero_filled n s

-- a last block of 0 to 55 bytes: the byte 80, zeros up to byte 56, and the length field
unfoldable pub one_block : List ℕ → ℕ → List ℕ
one_block r l = zero_filled 56 (r ++ 0x80 ∷ []) ++ big_endian 8 l

-- of 56 to 63 bytes: the byte 80 and zeros up to the block's end; then a block of zeros up to byte 56, and the length field
unfoldable pub two_blocks : List ℕ → ℕ → List ℕ
two_blocks r l = zero_filled 64 (r ++ 0x80 ∷ []) ++ (zero_filled 56 [] ++ big_endian 8 l)

-- which of the two it is
abbrev pub length_fits : List ℕ → Bool
length_fits r = nat_le (length r) 55

abbrev pub last_blocks : List ℕ → ℕ → List ℕ
last_blocks r l = cond (length_fits r) (one_block r l) (two_blocks r l)

-- how many bytes the whole blocks of m have
abbrev pub in_whole : List ℕ → ℕ
in_whole m = length m / 64 * 64

-- the padded message: the whole blocks as they are, and the last one by its case
unfoldable pub pad_by_cases : List ℕ → List ℕ
pad_by_cases m = take (in_whole m) m ++ last_blocks (drop (in_whole m) m) (8 * length m)
