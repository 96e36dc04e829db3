-- Laws of the padding by cases: bytes with zeros behind them, one zero after the other; the blocks of each case, and that they are whole.
use Rattle.std.specs.Prelude.{◌≡◌, ℕ, zero, suc, ◌+◌, ◌%◌, ◌<◌, ◌≤◌, List, [], ◌∷◌, ◌++◌, length, take, replicate, refl}
use Rattle.std.proofs.Common.{ap, ◌∙◌, suc-add, zero-add, arith, length-append}
use Rattle.std.proofs.Math.Logic.{inl, inr}
use Rattle.lemmas.specs.BigEndian.{big_endian, length-big_endian}
use Rattle.lemmas.specs.Tests.{tests, bool_cases, by_branches}
use Rattle.sha256_block.specs.PaddingCases.{zero_filled, one_block, two_blocks, length_fits, last_blocks}

-- ---- zeros behind bytes

pub filled_none : (z : ℕ) → zero_filled z [] ≡ replicate z 0
unfolding zero_filled
filled_none zero = refl
filled_none (suc z) = ap (λ (s : List ℕ). 0 ∷ s) (filled_none z)

pub filled_is : (s : List ℕ) (z n : ℕ) → n ≡ length s + z → zero_filled n s ≡ s ++ replicate z 0
unfolding zero_filled
filled_is [] z n e = ap (λ (k : ℕ). zero_filled k []) (e ∙ zero-add z) ∙ filled_none z
filled_is (b ∷ s) z n e =
    ap (λ (k : ℕ). zero_filled k (b ∷ s)) (e ∙ suc-add (length s) z)
    ∙ ap (λ (t : List ℕ). b ∷ t) (filled_is s z (length s + z) refl)

pub length_filled : (n : ℕ) (s : List ℕ) → length (zero_filled n s) ≡ n
unfolding zero_filled
length_filled zero s = refl
length_filled (suc n) [] = ap suc (length_filled n [])
length_filled (suc n) (b ∷ s) = ap suc (length_filled n s)

-- as many bytes as there are: no zero
pub filled_self : (s : List ℕ) → zero_filled (length s) s ≡ s
unfolding zero_filled
filled_self [] = refl
filled_self (b ∷ s) = ap (λ (t : List ℕ). b ∷ t) (filled_self s)

-- one byte more: a zero more
pub filled_more : (n : ℕ) (s : List ℕ) → length s ≤ n → zero_filled (suc n) s ≡ zero_filled n s ++ 0 ∷ []
unfolding zero_filled
filled_more zero [] h = refl
filled_more (suc n) [] h = ap (λ (t : List ℕ). 0 ∷ t) (filled_more n [] (omega arith))
filled_more zero (b ∷ s) h = absurd (omega arith)
filled_more (suc n) (b ∷ s) h = ap (λ (t : List ℕ). b ∷ t) (filled_more n s (omega arith))

-- the first of them
pub take_filled : (i n : ℕ) (s : List ℕ) → i ≤ n → take i (zero_filled n s) ≡ zero_filled i s
unfolding zero_filled
take_filled zero n s h = refl
take_filled (suc i) zero s h = absurd (omega arith)
take_filled (suc i) (suc n) [] h = ap (λ (t : List ℕ). 0 ∷ t) (take_filled i n [] (omega arith))
take_filled (suc i) (suc n) (b ∷ s) h = ap (λ (t : List ℕ). b ∷ t) (take_filled i n s (omega arith))

-- ---- the blocks

module _ (r : List ℕ) (l : ℕ) where
  -- a last block of up to 55 bytes
  pub in_one : length r ≤ 55 → last_blocks r l ≡ zero_filled 56 (r ++ 0x80 ∷ []) ++ big_endian 8 l
  unfolding one_block
  in_one h =
      elim (bool_cases (length_fits r)) [
        | inl t ↦ rw t
        | inr t ↦ absurd (omega tests)
      ]

  -- and of more
  pub in_two : 55 < length r → last_blocks r l ≡ zero_filled 64 (r ++ 0x80 ∷ []) ++ (zero_filled 56 [] ++ big_endian 8 l)
  unfolding two_blocks
  in_two h =
      elim (bool_cases (length_fits r)) [
        | inl t ↦ absurd (omega tests)
        | inr t ↦ rw t
      ]

  pub length_last : length (last_blocks r l) % 64 ≡ 0
  unfolding one_block two_blocks
  length_last =
      let one : length (one_block r l) ≡ 64 = simp (length-append, length_filled, length-big_endian) in
      let two : length (two_blocks r l) ≡ 128 = simp (length-append, length_filled, length-big_endian) in
      by_branches (λ (s : List ℕ). length s % 64 ≡ 0) (length_fits r) (ap (λ (n : ℕ). n % 64) one) (ap (λ (n : ℕ). n % 64) two)

-- of the length only what the length field has of it
pub same_blocks : (r : List ℕ) (l k : ℕ) → big_endian 8 l ≡ big_endian 8 k → last_blocks r l ≡ last_blocks r k
unfolding one_block two_blocks
same_blocks r l k e = rw e
