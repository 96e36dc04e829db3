-- Numbers bit by bit: XOR is associative, cheaper forms of a choice and of a majority, when AND keeps all of a number.
use Rattle.std.proofs.Common.{◌∙◌, ap, subst, sym, pow-suc, arith, pow-add, shr-shr}
use Rattle.std.specs.Prelude.{◌≡◌, refl, ℕ, zero, suc, ◌+◌, ◌-◌, ◌*◌, ◌/◌, ◌%◌, ◌^◌, ◌<◌}
use Rattle.std.proofs.Math.Decide.{dec_lt}
use Rattle.std.proofs.Math.Arith.{bin_ind}
use Rattle.std.specs.Int.Bits.{bit_and, bit_xor, and_step, and_zero_l, and_zero_r, xor_zero_r}
use Rattle.std.proofs.lemmas.Nat.{and_comm, and_mod, and_shr, xor_mod, xor_shr}
use Rattle.std.proofs.lemmas.Nat.Bits.{and_high}

-- a number is its half and its lowest bit
same : (a b : ℕ) → a / 2 ≡ b / 2 → a % 2 ≡ b % 2 → a ≡ b
same a b h l = omega arith

half_and : (a b : ℕ) → bit_and a b / 2 ≡ bit_and (a / 2) (b / 2)
half_and a b = and_shr a b 1

half_xor : (a b : ℕ) → bit_xor a b / 2 ≡ bit_xor (a / 2) (b / 2)
half_xor a b = xor_shr a b 1

low_and : (a b : ℕ) → bit_and a b % 2 ≡ bit_and (a % 2) (b % 2)
low_and a b = and_mod a b 1

low_xor : (a b : ℕ) → bit_xor a b % 2 ≡ bit_xor (a % 2) (b % 2)
low_xor a b = xor_mod a b 1

-- what holds of 0 and of 1 holds of every bit; and so for three
by_bit : (P : ℕ → Type 0) → P 0 → P 1 → (n : ℕ) → P (n % 2)
by_bit P p q n =
    elim (dec_lt (n % 2) 1) [
      | yes h ↦ let e : 0 ≡ n % 2 = omega arith in subst P e p
      | no h ↦ let e : 1 ≡ n % 2 = omega arith in subst P e q
    ]

by_bits : (P : ℕ → ℕ → ℕ → Type 0) → P 0 0 0 → P 0 0 1 → P 0 1 0 → P 0 1 1 → P 1 0 0 → P 1 0 1 → P 1 1 0 → P 1 1 1
    → (a b c : ℕ) → P (a % 2) (b % 2) (c % 2)
by_bits P o₀ o₁ o₂ o₃ o₄ o₅ o₆ o₇ a b c =
    by_bit (λ x. P x (b % 2) (c % 2))
    (by_bit (λ y. P 0 y (c % 2)) (by_bit (P 0 0) o₀ o₁ c) (by_bit (P 0 1) o₂ o₃ c) b)
    (by_bit (λ y. P 1 y (c % 2)) (by_bit (P 1 0) o₄ o₅ c) (by_bit (P 1 1) o₆ o₇ c) b)
    a

-- ---- three laws, by halves and lowest bits

pub xor_assoc : (a b c : ℕ) → bit_xor (bit_xor a b) c ≡ bit_xor a (bit_xor b c)
xor_assoc a =
    bin_ind (λ (n : ℕ). (b c : ℕ) → bit_xor (bit_xor n b) c ≡ bit_xor n (bit_xor b c)) (λ b c. refl)
    (λ n ih b c.
    same (bit_xor (bit_xor n b) c) (bit_xor n (bit_xor b c))
    (rw (half_xor (bit_xor n b) c, half_xor n b, half_xor n (bit_xor b c), half_xor b c, ih (b / 2) (c / 2)))
    (rw (low_xor (bit_xor n b) c, low_xor n b, low_xor n (bit_xor b c), low_xor b c)
    (by_bits (λ x y z. bit_xor (bit_xor x y) z ≡ bit_xor x (bit_xor y z))
    refl refl refl refl refl refl refl refl n b c)))
    a

-- the majority of x, y and z
pub majority : (x y z : ℕ)
    → bit_xor (bit_and (bit_xor x y) (bit_xor y z)) y ≡ bit_xor (bit_xor (bit_and x y) (bit_and x z)) (bit_and y z)
majority x y =
    bin_ind
    (λ (n : ℕ). (x z : ℕ)
    → bit_xor (bit_and (bit_xor x n) (bit_xor n z)) n ≡ bit_xor (bit_xor (bit_and x n) (bit_and x z)) (bit_and n z))
    (λ x z. rw (xor_zero_r x, and_zero_r x, xor_zero_r (bit_and x z)))
    (λ n ih x z.
    same (bit_xor (bit_and (bit_xor x n) (bit_xor n z)) n) (bit_xor (bit_xor (bit_and x n) (bit_and x z)) (bit_and n z))
    (rw (
      half_xor (bit_and (bit_xor x n) (bit_xor n z)) n,
      half_and (bit_xor x n) (bit_xor n z),
      half_xor x n,
      half_xor n z,
      half_xor (bit_xor (bit_and x n) (bit_and x z)) (bit_and n z),
      half_xor (bit_and x n) (bit_and x z),
      half_and x n,
      half_and x z,
      half_and n z,
      ih (x / 2) (z / 2),
    ))
    (rw (
      low_xor (bit_and (bit_xor x n) (bit_xor n z)) n,
      low_and (bit_xor x n) (bit_xor n z),
      low_xor x n,
      low_xor n z,
      low_xor (bit_xor (bit_and x n) (bit_and x z)) (bit_and n z),
      low_xor (bit_and x n) (bit_and x z),
      low_and x n,
      low_and x z,
      low_and n z,
    )
    (by_bits
    (λ x y z. bit_xor (bit_and (bit_xor x y) (bit_xor y z)) y ≡ bit_xor (bit_xor (bit_and x y) (bit_and x z)) (bit_and y z))
    refl refl refl refl refl refl refl refl x n z)))
    y x

-- where x has a 1 the bit of y, elsewhere that of z; of k bits
pub choice : (k x y z : ℕ) → x < 2 ^ k → z < 2 ^ k
    → bit_xor (bit_and (bit_xor y z) x) z ≡ bit_xor (bit_and x y) (bit_and (2 ^ k - 1 - x) z)
choice zero x y z hx hz =
    let ex : x ≡ 0 = omega arith in
    let ez : z ≡ 0 = omega arith in
    rw (ex, ez, and_zero_r (bit_xor y 0))
choice (suc k) x y z hx hz =
    let p : 2 ^ suc k ≡ 2 ^ k * 2 = pow-suc 2 k in
    let c : ℕ = 2 ^ suc k - 1 - x in
    let ch : c / 2 ≡ 2 ^ k - 1 - x / 2 = omega arith in
    let cl : c % 2 ≡ 1 - x % 2 = omega arith in
    same (bit_xor (bit_and (bit_xor y z) x) z) (bit_xor (bit_and x y) (bit_and c z))
    (rw (
      half_xor (bit_and (bit_xor y z) x) z,
      half_and (bit_xor y z) x,
      half_xor y z,
      half_xor (bit_and x y) (bit_and c z),
      half_and x y,
      half_and c z,
      ch,
      choice k (x / 2) (y / 2) (z / 2) (omega arith) (omega arith),
    ))
    (rw (
      low_xor (bit_and (bit_xor y z) x) z,
      low_and (bit_xor y z) x,
      low_xor y z,
      low_xor (bit_and x y) (bit_and c z),
      low_and x y,
      low_and c z,
      cl,
    )
    (by_bits (λ x y z. bit_xor (bit_and (bit_xor y z) x) z ≡ bit_xor (bit_and x y) (bit_and (1 - x) z))
    refl refl refl refl refl refl refl refl x y z))

-- ---- AND keeps all of a exactly where each bit of a is one of b's too
pub and-each : (a b : ℕ) → bit_and a b ≡ a → (k : ℕ) → a / 2 ^ k % 2 ≡ 1 → b / 2 ^ k % 2 ≡ 1
and-each a b e k h =
    let all : bit_and (a / 2 ^ k) (b / 2 ^ k) ≡ a / 2 ^ k = sym (and_shr a b k) ∙ ap (λ (n : ℕ). n / 2 ^ k) e in
    omega (arith, and_step (a / 2 ^ k) (b / 2 ^ k))

pub and_all : (a b : ℕ) → ((k : ℕ) → a / 2 ^ k % 2 ≡ 1 → b / 2 ^ k % 2 ≡ 1) → bit_and a b ≡ a
and_all =
    bin_ind (λ (n : ℕ). (b : ℕ) → ((k : ℕ) → n / 2 ^ k % 2 ≡ 1 → b / 2 ^ k % 2 ≡ 1) → bit_and n b ≡ n)
    (λ b h. and_zero_l b)
    (λ n ih b h.
    let rest : bit_and (n / 2) (b / 2) ≡ n / 2 = ih (b / 2) (λ k. rw (shr-shr n 1 k, shr-shr b 1 k) (h (1 + k))) in
    elim (dec_lt (n % 2) 1) [
      | yes z ↦ omega (arith, and_step n b)
      | no z ↦ omega (arith, and_step n b, h 0 (omega arith))
    ])

-- and of one bit it keeps that bit of n
pub and-bit : (k n : ℕ) → bit_and (2 ^ k) n ≡ (n / 2 ^ k % 2) * 2 ^ k
and-bit k n =
    let p : 2 ^ (1 + k) ≡ 2 * 2 ^ k = pow-add 2 1 k in
    let e : 2 ^ k ≡ 2 ^ (1 + k) - 2 ^ k = omega arith in
    and_comm (2 ^ k) n ∙ ap (bit_and n) e ∙ and_high n 1 k
