-- The functions of 4.1.2, and the sum T₁ of a round, in the forms that the code computes.
use Rattle.std.proofs.Common.{◌≡◌, ℕ, ◌+◌, ◌%◌, ◌^◌, ◌<◌, arith}
use lib.Bits.{bit_and}
use Rattle.lemmas.specs.Bits.{majority, choice}
use Rattle.sha256_block.specs.Sha256.{◌⊕◌, ◌⊞◌, Ch, Maj}

-- ---- the functions

pub Ch_is : (x y z : ℕ) → x < 2 ^ 32 → z < 2 ^ 32 → bit_and (y ⊕ z) x ⊕ z ≡ Ch x y z
Ch_is x y z hx hz = choice 32 x y z hx hz

pub Maj_is : (x y z : ℕ) → bit_and (x ⊕ y) (y ⊕ z) ⊕ y ≡ Maj x y z
Maj_is x y z = majority x y z

-- ---- a round's sum T₁

-- a sum modulo 2 ^ 32 inside another
sum_left : (a b : ℕ) → (a % 2 ^ 32) ⊞ b ≡ (a + b) % 2 ^ 32
sum_left a b = omega arith

sum_right : (a b : ℕ) → a ⊞ (b % 2 ^ 32) ≡ (a + b) % 2 ^ 32
sum_right a b = omega arith

-- in the code's order and in the standard's
pub T₁_is : (h s c k w : ℕ) → h ⊞ (k ⊞ w) ⊞ c ⊞ s ≡ h ⊞ s ⊞ c ⊞ k ⊞ w
T₁_is h s c k w =
    let e : h + (k + w) + c + s ≡ h + s + c + k + w = omega arith in
    rw (
      sum_right h (k + w),
      sum_left (h + (k + w)) c,
      sum_left (h + (k + w) + c) s,
      sum_left (h + s) c,
      sum_left (h + s + c) k,
      sum_left (h + s + c + k) w,
      e,
    )
