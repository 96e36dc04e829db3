-- The padding of FIPS 180-4: its bytes by its bits, a last block with the padding behind it by cases, and the theorem.
use Rattle.std.specs.Prelude.{◌≡◌, ℕ, ◌+◌, ◌-◌, ◌*◌, ◌/◌, ◌%◌, ◌<◌, ◌≤◌, Bool, true, List, [], ◌∷◌, ◌++◌, length, take, drop, replicate, ◌≢◌, refl}
use Rattle.std.proofs.Math.Path.{sym, ap}
use Rattle.std.proofs.Common.{◌∙◌, eq-eqb, eqb-true, length-drop, take-append-drop}
use Rattle.std.proofs.Math.Bool.{true≢false}
use mathlib.Core.List.{append_assoc}
use Rattle.std.proofs.Math.Decide.{dec_le, dec_lt}
use native.Mathlib.Omega.{arith}
use Rattle.std.proofs.Math.ListN.{length-append}
use Rattle.std.proofs.lemmas.List.{replicate-append-replicate}
use Rattle.std.proofs.Math.Seq.{append_snoc, length-take-le}
use Rattle.lemmas.specs.BigEndian.{big_endian}
use Rattle.lemmas.specs.Binary.{binary, in_bits, in_bytes}
use Rattle.lemmas.specs.BinaryLaws.{spelled-binary, bits_append, length_bits}
use Rattle.lemmas.specs.BinaryLaws.{bits_zeros, bits_number, bytes-append, bytes-zeros, bytes-number, bytes_bits}
use Rattle.lemmas.specs.Tests.{◌is◌, first_passes, none_before}
use Rattle.sha256_block.specs.Sha256.{zero_bits, padding_bits, padding, pad}
use Rattle.sha256_block.specs.PaddingCases.{last_blocks, in_whole, pad_by_cases}
use Rattle.sha256_block.specs.Padding.{Standard, PaddedMessage}
use Rattle.sha256_block.proofs.PaddingCasesLaws.{filled_none, filled_is, in_one, in_two, length_last}

-- a message has one padding
pub one_padding : (M P Q : List ℕ) (j k : ℕ) → Standard M P j → Standard M Q k → P ≡ Q
one_padding M P Q j k p q =
    let e : j ≡ k =
    elim (dec_lt j k) [
      | yes h ↦ absurd (q.smallest j h p.solves)
      | no h ↦
          elim (dec_lt k j) [
            | yes g ↦ absurd (p.smallest k g q.solves)
            | no g ↦ omega arith
          ]
    ] in
    p.appended ∙ ap (λ (i : ℕ). M ++ 1 ∷ replicate i 0 ++ binary 64 (length M)) e ∙ sym q.appended

-- ---- k zero bits

module _ (l : ℕ) where
  abbrev test : ℕ → Bool
  test k = (l + 1 + k) % 512 is 448

  -- one of the first 512 numbers solves it
  found : (test (zero_bits l) ≡ true) × (zero_bits l ≤ (959 - l % 512) % 512)
  unfolding zero_bits
  found =
      let k : ℕ = (959 - l % 512) % 512 in
      let e : (l + 1 + k) % 512 ≡ 448 = omega arith in
      first_passes 0 512 test k (omega arith) (omega arith) (eq-eqb ((l + 1 + k) % 512) 448 e)

  solution : (l + 1 + zero_bits l) % 512 ≡ 448
  solution = eqb-true ((l + 1 + zero_bits l) % 512) 448 found.0

  none_smaller : (j : ℕ) → j < zero_bits l → (l + 1 + j) % 512 ≢ 448
  unfolding zero_bits
  none_smaller j h e = true≢false (sym (eq-eqb ((l + 1 + j) % 512) 448 e) ∙ none_before 0 512 test j (omega arith) h)

-- ---- the padding in bytes

-- the bit "1" and seven zero bits
mark_bits : binary 8 0x80 ≡ 1 ∷ replicate 7 0
unfolding binary
mark_bits = refl

module _ (n : ℕ) where
  abbrev zeros : List ℕ
  zeros = replicate (zero_bits (8 * n) / 8) 0

  abbrev field : List ℕ
  field = big_endian 8 (8 * n)

  padding_bits_lem : padding_bits (8 * n) ≡ in_bits (0x80 ∷ zeros ++ field)
  unfolding padding_bits in_bits
  padding_bits_lem =
      let k : ℕ = zero_bits (8 * n) in
      let e : k ≡ 7 + 8 * (k / 8) = omega (arith, solution (8 * n)) in
      ap (λ (z : List ℕ). 1 ∷ z ++ binary 64 (8 * n))
      (ap (λ (j : ℕ). replicate j 0) e ∙ sym (replicate-append-replicate 7 (8 * (k / 8)) 0))
      ∙ rw (mark_bits, bits_append zeros field, bits_zeros (k / 8), bits_number 8 (8 * n))

  padding-bytes : padding n ≡ 0x80 ∷ zeros ++ field
  unfolding padding
  padding-bytes =
      ap in_bytes padding_bits_lem
      ∙ bytes_bits (0x80 ∷ zeros ++ field)
      (bytes-append zeros field (bytes-zeros (zero_bits (8 * n) / 8)) (bytes-number 8 (8 * n)))

  bits_padding : in_bits (padding n) ≡ padding_bits (8 * n)
  bits_padding = ap in_bits padding-bytes ∙ sym padding_bits_lem

-- ---- the cases

-- a last block, and the padding of a message that ends in it, are the blocks of its case
pub last_by_cases : (r : List ℕ) (n : ℕ) → length r ≡ n % 64 → r ++ padding n ≡ last_blocks r (8 * n)
last_by_cases r n e =
    let z : ℕ = zero_bits (8 * n) / 8 in
    let s : List ℕ = r ++ 0x80 ∷ [] in
    let b : zero_bits (8 * n) < 512 = omega (arith, (found (8 * n)).1) in
    let q : (8 * n + 1 + zero_bits (8 * n)) % 512 ≡ 448 = solution (8 * n) in
    let ls : length s ≡ length r + 1 = length-append r (0x80 ∷ []) in
    let p : r ++ padding n ≡ (s ++ replicate z 0) ++ field n =
    ap (λ (t : List ℕ). r ++ t) (padding-bytes n)
    ∙ sym (ap (λ (t : List ℕ). t ++ field n) (append_snoc r 0x80 (replicate z 0))
    ∙ append_assoc r (0x80 ∷ replicate z 0) (field n)) in
    elim (dec_le (length r) 55) [
      | yes h ↦
          let u : 56 ≡ length s + z = omega arith in
          p ∙ rw (in_one r (8 * n) h, filled_is s z 56 u)
      | no h ↦
          let y : ℕ = 63 - length r in
          let v : z ≡ y + 56 = omega arith in
          let u : 64 ≡ length s + y = omega arith in
          let g : s ++ replicate z 0 ≡ (s ++ replicate y 0) ++ replicate 56 0 =
          ap (λ (k : ℕ). s ++ replicate k 0) v ∙ ap (λ (t : List ℕ). s ++ t) (sym (replicate-append-replicate y 56 0))
          ∙ sym (append_assoc s (replicate y 0) (replicate 56 0)) in
          p ∙ ap (λ (t : List ℕ). t ++ field n) g ∙ append_assoc (s ++ replicate y 0) (replicate 56 0) (field n)
          ∙ rw (in_two r (8 * n) (omega arith), filled_is s y 64 u, filled_none 56)
    ]

-- ---- the theorem

module _ (m : List ℕ) where
  abbrev n : ℕ
  n = length m

  same : pad m ≡ pad_by_cases m
  unfolding pad pad_by_cases
  same =
      let w : ℕ = in_whole m in
      ap (λ (s : List ℕ). s ++ padding n) (sym (take-append-drop w m))
      ∙ append_assoc (take w m) (drop w m) (padding n)
      ∙ ap (λ (s : List ℕ). take w m ++ s) (last_by_cases (drop w m) n (length-drop w m ∙ omega arith))

  blocks-whole : length (pad m) % 64 ≡ 0
  unfolding pad_by_cases
  blocks-whole =
      let w : ℕ = in_whole m in
      let last : List ℕ = last_blocks (drop w m) (8 * n) in
      omega (
        arith,
        ap length same ∙ length-append (take w m) last,
        length-take-le w m (omega arith),
        length_last (drop w m) (8 * n),
      )

  as_appended : in_bits (pad m) ≡ in_bits m ++ 1 ∷ replicate (zero_bits (8 * n)) 0 ++ binary 64 (8 * n)
  unfolding pad padding_bits
  as_appended =
      bits_append m (padding n) ∙ ap (λ (s : List ℕ). in_bits m ++ s) (bits_padding n)
      ∙ sym (append_assoc (in_bits m) (1 ∷ replicate (zero_bits (8 * n)) 0) (binary 64 (8 * n)))

  as_standard : Standard (in_bits m) (in_bits (pad m)) (zero_bits (8 * n))
  as_standard =
      let e : length (in_bits m) ≡ 8 * n = length_bits m in
      record {
        solves = rw e (solution (8 * n));
        smallest = rw e (none_smaller (8 * n));
        appended = rw e as_appended;
        number = λ h. spelled-binary 64 (length (in_bits m)) ∙ omega arith;
        multiple = omega (arith, length_bits (pad m), blocks-whole);
      }

  pub padded_message : PaddedMessage m
  padded_message = record { standard = as_standard; by_cases = same; whole-blocks = blocks-whole }
