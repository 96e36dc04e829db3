-- The end of a message: its last block by the padding's two cases, and the digest's bytes.
use Rattle.std.proofs.Common.{◌≡◌, ℕ, ◌+◌, ◌*◌, ◌/◌, ◌%◌, ◌^◌, ◌<◌, ◌≤◌, List, [], ◌∷◌, ◌++◌, length, get_or, take, replicate, sym, refl, ap, ◌∙◌, add-one, arith, length-append, take_all, take-suc, take_at, drop_at}
use Rattle.lemmas.specs.BigEndian.{big_endian, length-big_endian}
use Rattle.std.proofs.lemmas.Slice.{take-put_mid}
use borrow.Rule.Slice.PartMut.{put_mid}
use Rattle.sha256_block.specs.declared.State.{State}
use Rattle.sha256_stream.specs.declared.Hash.{Hash}
use Rattle.sha256_block.specs.Sha256.{compress, blocks, bytes}
use Rattle.sha256_block.specs.PaddingCases.{zero_filled, last_blocks}
use Rattle.sha256_block.proofs.PaddingCasesLaws.{filled_none, take_filled, length_filled, in_one, in_two, same_blocks}
use Rattle.sha256_block.proofs.PaddingLaws.{last_by_cases}
use Rattle.sha256_stream.specs.Stream.{worked_in, finished}
use Rattle.sha256_stream.proofs.AbsorbedLaws.{same_field}
use Rattle.sha256_stream.proofs.Absorbing.{length_begun}

-- ---- the bytes of the words

unfoldable pub joined : List ℕ → List ℕ
joined [] = []
joined (x ∷ xs) = big_endian 4 x ++ joined xs

-- the words of a state, one after the other
pub joined_bytes : (s : State)
    → joined (s.a ∷ s.b ∷ s.c ∷ s.d ∷ s.e ∷ s.f ∷ s.g ∷ s.h ∷ []) ≡ bytes s
unfolding joined big_endian
joined_bytes s = refl

joined_more : (w : List ℕ) (x : ℕ) → joined (w ++ x ∷ []) ≡ joined w ++ big_endian 4 x
unfolding joined big_endian
joined_more [] x = refl
joined_more (y ∷ w) x = rw (joined_more w x)

-- one word more, copied behind those before it
pub joined_step : (out w b : List ℕ) (i k : ℕ) → i < length w → 4 * i ≤ length out → b ≡ big_endian 4 (get_or w i 0)
    → take (4 * i) out ≡ joined (take i w) → take (4 * (i + 1)) (put_mid (4 * i) k out b) ≡ joined (take (i + 1) w)
joined_step out w b i k hw ho eb e =
    let n : 4 * (i + 1) ≡ 4 * i + length b = omega (arith, ap length eb, length-big_endian 4 (get_or w i 0)) in
    take-put_mid (4 * i) k out b (4 * (i + 1)) n ho
    ∙ rw (e, eb) (sym (joined_more (take i w) (get_or w i 0)) ∙ ap joined (sym (ap (λ (k : ℕ). take k w) (add-one i) ∙ take-suc w i 0 hw)))

-- ---- the end

-- one block worked in, and two
worked_one : (s : State) (p : List ℕ) → length p ≡ 64 → worked_in s p ≡ compress s p
unfolding blocks
worked_one s p e =
    let n : length p / 64 ≡ 1 = omega arith in
    rw n (ap (compress s) (take_all 64 p (omega arith)))

worked_two : (s : State) (p q : List ℕ) → length p ≡ 64 → length q ≡ 64 → worked_in s (p ++ q) ≡ compress (compress s p) q
unfolding blocks
worked_two s p q e f =
    let n : length (p ++ q) / 64 ≡ 2 = omega (arith, length-append p q) in
    rw (n, take_at p q 64 e, drop_at p q 64 e, take_all 64 q (omega arith))

-- a block of zeros, up to the length field
zeros_filled : take 56 (replicate 64 0) ≡ zero_filled 56 []
zeros_filled = ap (take 56) (sym (filled_none 64)) ∙ take_filled 56 64 [] (omega arith)

module _ (h : Hash) (hl : length h.pending ≡ 64) (b : ℕ) (eb : b ≡ h.total * 8 % 2 ^ 64) where
  abbrev r : List ℕ
  r = take (h.total % 64) h.pending

  length-r : length r ≡ h.total % 64
  length-r = length_begun h hl

  -- the last blocks l, with b as the length
  finished_in : (l : List ℕ) → last_blocks r b ≡ l → bytes (worked_in h.chain l) ≡ finished h
  unfolding finished
  finished_in l e =
      ap (λ (k : List ℕ). bytes (worked_in h.chain k))
      (sym (last_by_cases r h.total length-r ∙ same_blocks r (8 * h.total) b (same_field (8 * h.total) b (omega arith)) ∙ e))

  -- 0 to 55 bytes: one block more
  pub finish_one : (only : List ℕ) → h.total % 64 ≤ 55 → take 56 only ≡ zero_filled 56 (r ++ 0x80 ∷ [])
      → bytes (compress h.chain (take 56 only ++ big_endian 8 b)) ≡ finished h
  finish_one only s e =
      let q : List ℕ = take 56 only ++ big_endian 8 b in
      let lq : length q ≡ 64 = rw e (simp (length-append, length_filled, length-big_endian)) in
      ap bytes (sym (worked_one h.chain q lq))
      ∙ finished_in q (in_one r b (omega (arith, length-r)) ∙ ap (λ (k : List ℕ). k ++ big_endian 8 b) (sym e))

  -- 56 to 63 bytes: two blocks more
  pub finish-two : (full : List ℕ) → 55 < h.total % 64 → take 64 full ≡ zero_filled 64 (r ++ 0x80 ∷ [])
      → bytes (compress (compress h.chain (take 64 full)) (take 56 (replicate 64 0) ++ big_endian 8 b)) ≡ finished h
  finish-two full s e =
      let p : List ℕ = take 64 full in
      let q : List ℕ = take 56 (replicate 64 0) ++ big_endian 8 b in
      let lp : length p ≡ 64 = ap length e ∙ length_filled 64 (r ++ 0x80 ∷ []) in
      let lq : length q ≡ 64 = simp length-big_endian in
      ap bytes (sym (worked_two h.chain p q lp lq))
      ∙ finished_in (p ++ q)
      (in_two r b (omega (arith, length-r)) ∙ λ i. sym e i ++ (sym zeros_filled i ++ big_endian 8 b))
