-- Bytes read as numbers, and these written as bytes, are the same bytes.
use mathlib.Core.Path.{◌≡◌, refl, sym, ap, ◌∙◌}
use mathlib.Core.List.{List, [], ◌∷◌, ◌++◌}
use Prim.Native.Nat.{ℕ, zero, suc, ◌+◌, ◌*◌, ◌/◌, ◌%◌, ◌≤◌, ◌<◌}
use native.Mathlib.Omega.{arith}
use lib.ListN.{drop, get_or, length, length-drop, take}
use lib.Seq.{drop-drop, get_or-drop, take-add, take-suc}
use Rattle.lemmas.specs.Lists.{part}
use Rattle.lemmas.specs.BigEndian.{big_endian, big_endian_last, encode, layout_size, number_at, read_all}

-- ---- a part of s, one element longer; two parts that lie side by side
part_suc : (s : List ℕ) (i n : ℕ) → i + suc n ≤ length s → part s i n ++ (get_or s (i + n) 0 ∷ []) ≡ part s i (suc n)
unfolding part
part_suc s i n h =
    ap (λ (x : ℕ). take n (drop i s) ++ (x ∷ [])) (sym (get_or-drop i s n 0))
    ∙ sym (take-suc (drop i s) n 0 (rw length-drop (omega arith)))

part-add : (s : List ℕ) (i a b : ℕ) → part s i a ++ part s (i + a) b ≡ part s i (a + b)
unfolding part
part-add s i a b =
    ap (λ (l : List ℕ). take a (drop i s) ++ take b l) (sym (drop-drop a i s)) ∙ sym (take-add a b (drop i s))

module _ (s : List ℕ) (bytes : (k : ℕ) → get_or s k 0 < 256) where
  -- ---- one number, and each field of a layout
  number-written : (i n : ℕ) → i + n ≤ length s → big_endian n (number_at s i n) ≡ part s i n
  unfolding big_endian number_at part
  number-written i zero h = refl
  number-written i (suc n) h =
      let x : ℕ = number_at s i n in
      let y : ℕ = get_or s (i + n) 0 in
      let low : y < 256 = bytes (i + n) in
      let q : (x * 256 + y) / 256 ≡ x = omega arith in
      let r : (x * 256 + y) % 256 ≡ y = omega arith in
      let e : big_endian n x ≡ part s i n = number-written i n (omega arith) in
      big_endian_last n (x * 256 + y)
      ∙ (λ j. big_endian n (q j) ++ (r j ∷ []))
      ∙ ap (λ (l : List ℕ). l ++ (y ∷ [])) e
      ∙ part_suc s i n h

  pub layout_written : (ws : List ℕ) (i : ℕ) → i + layout_size ws ≤ length s
      → encode ws (read_all s i ws) ≡ part s i (layout_size ws)
  unfolding encode layout_size part read_all
  layout_written [] i h = refl
  layout_written (w ∷ ws) i h =
      let e : big_endian w (number_at s i w) ≡ part s i w = number-written i w (omega arith) in
      let f : encode ws (read_all s (i + w) ws) ≡ part s (i + w) (layout_size ws) = layout_written ws (i + w) (omega arith) in
      (λ j. e j ++ f j) ∙ part-add s i w (layout_size ws)
