-- Laws of bit strings: what a number's bits spell, the bits of bytes, and that bytes are those that their bits make.
use Rattle.std.specs.Prelude.{◌≡◌, refl, List, [], ◌∷◌, ◌++◌, true, ℕ, zero, suc, ◌+◌, ◌*◌, ◌/◌, ◌%◌, ◌^◌, ◌<◌, length, replicate, ltb}
use Rattle.std.proofs.Common.{sym, ap, ◌∙◌, append_assoc, suc-add, zero-add, pow-suc, arith, length-append, pow-add, shr-shr, take_at, drop_at, ltb-true, lt-ltb}
use Rattle.std.proofs.lemmas.List.{replicate-append-replicate}
use Rattle.std.proofs.Math.Pow.{are_bytes, field, mod-mod-pow}
use Rattle.std.proofs.lemmas.Nat.{mod-pow-add}
use Rattle.lemmas.specs.BigEndian.{big_endian, digit}
use Rattle.lemmas.specs.Binary.{binary, spelled, in_bits, bytes_made, in_bytes}
use Rattle.lemmas.specs.Tests.{and_l, and_r, both}

-- ---- a number's bits

binary_none : (x : ℕ) → binary 0 x ≡ []
unfolding binary
binary_none x = refl

pub length-binary : (n x : ℕ) → length (binary n x) ≡ n
unfolding binary
length-binary zero x = refl
length-binary (suc n) x = ap suc (length-binary n x)

-- they spell it, modulo 2 to their number
pub spelled-binary : (n x : ℕ) → spelled (binary n x) ≡ x % 2 ^ n
unfolding binary spelled
spelled-binary zero x = omega arith
spelled-binary (suc n) x =
    let e : suc n ≡ 1 + n = omega arith in
    rw (length-binary n x, spelled-binary n x, e, mod-pow-add x 1 n)

-- the first a of a + b bits, and the rest
binary-add : (a b x : ℕ) → binary (a + b) x ≡ binary a (x / 2 ^ b) ++ binary b x
unfolding binary
binary-add zero b x = ap (λ (k : ℕ). binary k x) (zero-add b)
binary-add (suc a) b x =
    let c : a + b ≡ b + a = omega arith in
    let e : x / 2 ^ (a + b) ≡ x / 2 ^ b / 2 ^ a = ap (λ (k : ℕ). x / 2 ^ k) c ∙ sym (shr-shr x b a) in
    ap (λ (k : ℕ). binary k x) (suc-add a b) ∙ λ i. e i % 2 ∷ binary-add a b x i

-- ---- the bits of bytes

pub bits_append : (a b : List ℕ) → in_bits (a ++ b) ≡ in_bits a ++ in_bits b
unfolding in_bits
bits_append [] b = refl
bits_append (x ∷ a) b = rw (bits_append a b, append_assoc (binary 8 x) (in_bits a) (in_bits b))

pub length_bits : (s : List ℕ) → length (in_bits s) ≡ 8 * length s
unfolding in_bits
length_bits [] = refl
length_bits (b ∷ s) = omega (arith, length-append (binary 8 b) (in_bits s), length-binary 8 b, length_bits s)

-- zero bytes are zero bits
zero_byte : binary 8 0 ≡ replicate 8 0
unfolding binary
zero_byte = refl

pub bits_zeros : (n : ℕ) → in_bits (replicate n 0) ≡ replicate (8 * n) 0
unfolding in_bits
bits_zeros zero = refl
bits_zeros (suc n) =
    let e : 8 + 8 * n ≡ 8 * suc n = omega arith in
    rw (zero_byte, bits_zeros n) (replicate-append-replicate 8 (8 * n) 0 ∙ ap (λ (k : ℕ). replicate k 0) e)

-- w bits of a number are those of it modulo a higher power
pub bits_mod : (w i k x : ℕ) → x % 2 ^ (i + w + k) / 2 ^ k % 2 ^ w ≡ x / 2 ^ k % 2 ^ w
bits_mod w i k x = ap (λ (z : ℕ). z % 2 ^ w) (field x (i + w) k) ∙ mod-mod-pow (x / 2 ^ k) i w

-- a byte is a number modulo 256
byte_bits : (x : ℕ) → binary 8 (x % 256) ≡ binary 8 x
unfolding binary
byte_bits x =
    λ j.
    bits_mod 1 0 7 x j ∷ bits_mod 1 1 6 x j ∷ bits_mod 1 2 5 x j ∷ bits_mod 1 3 4 x j ∷ bits_mod 1 4 3 x j
    ∷ bits_mod 1 5 2 x j ∷ bits_mod 1 6 1 x j ∷ bits_mod 1 7 0 x j ∷ []

power_bits : (k : ℕ) → 256 ^ k ≡ 2 ^ (8 * k)
power_bits zero = refl
power_bits (suc k) =
    let e : 8 * suc k ≡ 8 * k + 8 = omega arith in
    pow-suc 256 k ∙ rw (power_bits k, e, pow-add 2 (8 * k) 8)

-- the digit that counts 256 to the k has the eight bits from the one that counts 2 to the 8 * k on
digit_bits : (k x : ℕ) → binary 8 (digit k x) ≡ binary 8 (x / 2 ^ (8 * k))
unfolding digit
digit_bits zero x = byte_bits x ∙ ap (binary 8) (omega arith)
digit_bits (suc k) x = byte_bits (x / 256 ^ suc k) ∙ ap (λ (p : ℕ). binary 8 (x / p)) (power_bits (suc k))

-- a number in n bytes has the bits of the number in 8 * n bits
pub bits_number : (n x : ℕ) → in_bits (big_endian n x) ≡ binary (8 * n) x
unfolding in_bits big_endian
bits_number zero x = sym (binary_none x)
bits_number (suc n) x =
    let e : 8 * suc n ≡ 8 + 8 * n = omega arith in
    rw (digit_bits n x, bits_number n x, e, binary-add 8 (8 * n) x)

-- ---- which lists are of bytes

pub bytes-append : (a b : List ℕ) → are_bytes a ≡ true → are_bytes b ≡ true → are_bytes (a ++ b) ≡ true
bytes-append [] b e f = f
bytes-append (x ∷ a) b e f =
    both {a = ltb x 256} {b = are_bytes (a ++ b)} (and_l (ltb x 256) (are_bytes a) e)
    (bytes-append a b (and_r (ltb x 256) (are_bytes a) e) f)

pub bytes-zeros : (n : ℕ) → are_bytes (replicate n 0) ≡ true
bytes-zeros zero = refl
bytes-zeros (suc n) = bytes-zeros n

digit_byte : (k x : ℕ) → digit k x < 256
unfolding digit
digit_byte zero x = omega arith
digit_byte (suc k) x = omega arith

pub bytes-number : (n x : ℕ) → are_bytes (big_endian n x) ≡ true
unfolding big_endian
bytes-number zero x = refl
bytes-number (suc n) x = both (lt-ltb (digit n x) 256 (digit_byte n x)) (bytes-number n x)

-- ---- bytes are those that their bits make

bytes_of_bits : (s : List ℕ) → are_bytes s ≡ true → bytes_made (length s) (in_bits s) ≡ s
unfolding in_bits bytes_made
bytes_of_bits [] e = refl
bytes_of_bits (b ∷ s) e =
    let h : b < 256 = ltb-true b 256 (and_l (ltb b 256) (are_bytes s) e) in
    let v : b % 2 ^ 8 ≡ b = omega arith in
    rw (
      take_at (binary 8 b) (in_bits s) 8 (length-binary 8 b),
      drop_at (binary 8 b) (in_bits s) 8 (length-binary 8 b),
      spelled-binary 8 b,
      v,
      bytes_of_bits s (and_r (ltb b 256) (are_bytes s) e),
    )

pub bytes_bits : (s : List ℕ) → are_bytes s ≡ true → in_bytes (in_bits s) ≡ s
bytes_bits s e =
    let n : length (in_bits s) / 8 ≡ length s = omega (arith, length_bits s) in
    ap (λ (k : ℕ). bytes_made k (in_bits s)) n ∙ bytes_of_bits s e
