-- Numbers and bytes in bits. A bit string is a list of bits, each 0 or 1, the most significant first.
use Rattle.std.specs.Prelude.{List, [], ◌∷◌, ◌++◌, ℕ, zero, suc, ◌+◌, ◌*◌, ◌/◌, ◌%◌, ◌^◌, length, take, drop}

-- x in n bits
unfoldable pub binary : ℕ → ℕ → List ℕ
binary zero x = []
binary (suc n) x = x / 2 ^ n % 2 ∷ binary n x

-- the number that a bit string spells: a bit counts 2 to the number of bits after it
unfoldable pub spelled : List ℕ → ℕ
spelled [] = 0
spelled (b ∷ s) = b * 2 ^ length s + spelled s

-- the bits of bytes, eight each
unfoldable pub in_bits : List ℕ → List ℕ
in_bits [] = []
in_bits (b ∷ s) = binary 8 b ++ in_bits s

-- the first n bytes that a bit string makes, eight bits each; and all of them
unfoldable pub bytes_made : ℕ → List ℕ → List ℕ
bytes_made zero s = []
bytes_made (suc n) s = spelled (take 8 s) ∷ bytes_made n (drop 8 s)

abbrev pub in_bytes : List ℕ → List ℕ
in_bytes s = bytes_made (length s / 8) s
