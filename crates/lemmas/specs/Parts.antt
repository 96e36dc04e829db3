-- A part of a list, and a list with another part spliced in.
use Rattle.std.specs.Prelude.{◌≡◌, ◌⊎◌, List, ◌++◌, ℕ, ◌+◌, ◌-◌, ◌≤◌, ◌<◌, get_or, take}
use Rattle.std.proofs.Common.{sym, ap, ◌∙◌, inl, inr, add_assoc, arith, length-append, length-drop, take_at, length-take-le, ext_get_or}
use Rattle.std.proofs.Math.Decide.{dec_lt}
use Rattle.std.proofs.Math.ListN.{length, drop, get_or-append}
use Rattle.std.proofs.Math.Seq.{get_or-take, get_or-drop, get_or-append-add}
use Rattle.lemmas.specs.Lists.{part, splice}

seam : (p q : List ℕ) (n j : ℕ) → length p ≡ n → get_or (p ++ q) (n + j) 0 ≡ get_or q j 0
seam p q n j e = rw (← e) (get_or-append-add p q j 0)

pub length_part : (s : List ℕ) (i n : ℕ) → i + n ≤ length s → length (part s i n) ≡ n
unfolding part
length_part s i n h = length-take-le n (drop i s) (rw length-drop (omega arith))

pub get_d_part : (s : List ℕ) (i n j : ℕ) → j < n → get_or (part s i n) j 0 ≡ get_or s (i + j) 0
unfolding part
get_d_part s i n j h = get_or-take n (drop i s) j 0 h ∙ get_or-drop i s j 0

module _ (s new : List ℕ) (i : ℕ) (h : i + length new ≤ length s) where
  len_take : length (take i s) ≡ i
  len_take = length-take-le i s (omega arith)

  pub length-splice : length (splice s i new) ≡ length s
  unfolding splice
  length-splice = simp (length-append, len_take, length-drop) (omega arith)

  pub splice_before : (j : ℕ) → j < i → get_or (splice s i new) j 0 ≡ get_or s j 0
  unfolding splice
  splice_before j l = get_or-append (take i s) (new ++ drop (i + length new) s) 0 j (rw len_take l)
      ∙ get_or-take i s j 0 l

  pub splice_in : (j : ℕ) → j < length new → get_or (splice s i new) (i + j) 0 ≡ get_or new j 0
  unfolding splice
  splice_in j l = seam (take i s) (new ++ drop (i + length new) s) i j len_take
      ∙ get_or-append new (drop (i + length new) s) 0 j l

  after : (k : ℕ) → get_or (splice s i new) (i + (length new + k)) 0 ≡ get_or s (i + length new + k) 0
  unfolding splice
  after k =
      seam (take i s) (new ++ drop (i + length new) s) i (length new + k) len_take
      ∙ get_or-append-add new (drop (i + length new) s) k 0
      ∙ get_or-drop (i + length new) s k 0

  pub splice_after : (j : ℕ) → i + length new ≤ j → get_or (splice s i new) j 0 ≡ get_or s j 0
  splice_after j l =
      let k : ℕ = j - (i + length new) in
      let e : i + (length new + k) ≡ j = omega arith in
      let f : i + length new + k ≡ j = omega arith in
      ap (λ (z : ℕ). get_or (splice s i new) z 0) (sym e) ∙ after k ∙ ap (λ (z : ℕ). get_or s z 0) f

-- a part that the new bytes do not meet
pub part_apart : (s new : List ℕ) (i k n : ℕ) → i + length new ≤ length s → k + n ≤ length s → (i + length new ≤ k)
    ⊎ (k + n ≤ i)
    → part (splice s i new) k n ≡ part s k n
part_apart s new i k n h l c =
    ext_get_or 0 (part (splice s i new) k n) (part s k n)
    (length_part (splice s i new) k n (rw (length-splice s new i h) l) ∙ sym (length_part s k n l))
    (λ j m. let b : j < n = rw (length_part (splice s i new) k n (rw (length-splice s new i h) l)) at m in
    get_d_part (splice s i new) k n j b ∙ same j b c ∙ sym (get_d_part s k n j b))
  where
    same : (j : ℕ) → j < n → (i + length new ≤ k) ⊎ (k + n ≤ i) → get_or (splice s i new) (k + j) 0 ≡ get_or s (k + j) 0
    same j b (inl a) = splice_after s new i h (k + j) (omega arith)
    same j b (inr a) = splice_before s new i h (k + j) (omega arith)

-- a part that the new bytes are inside
pub part-inside : (s new : List ℕ) (k a n : ℕ) → a + length new ≤ n → k + n ≤ length s
    → part (splice s (k + a) new) k n ≡ splice (part s k n) a new
part-inside s new k a n h l =
    ext_get_or 0 (part (splice s (k + a) new) k n) (splice (part s k n) a new) (len ∙ sym len')
    (λ j m. at j (rw len at m))
  where
    fit : k + a + length new ≤ length s
    fit = omega arith

    fit' : a + length new ≤ length (part s k n)
    fit' = rw (length_part s k n l) h

    len : length (part (splice s (k + a) new) k n) ≡ n
    len = length_part (splice s (k + a) new) k n (rw (length-splice s new (k + a) fit) l)

    len' : length (splice (part s k n) a new) ≡ n
    len' = length-splice (part s k n) new a fit' ∙ length_part s k n l

    out : (j : ℕ) → j < n → get_or (splice s (k + a) new) (k + j) 0 ≡ get_or s (k + j) 0
        → get_or (splice (part s k n) a new) j 0 ≡ get_or (part s k n) j 0
        → get_or (part (splice s (k + a) new) k n) j 0 ≡ get_or (splice (part s k n) a new) j 0
    out j b e f = get_d_part (splice s (k + a) new) k n j b ∙ e ∙ sym (get_d_part s k n j b) ∙ sym f

    later : (j : ℕ) → j < n → a ≤ j → Dec (j < a + length new)
        → get_or (part (splice s (k + a) new) k n) j 0 ≡ get_or (splice (part s k n) a new) j 0
    later j b c (yes d) =
        let i : ℕ = j - a in
        let e : k + j ≡ k + a + i = omega arith in
        let f : a + i ≡ j = omega arith in
        get_d_part (splice s (k + a) new) k n j b
        ∙ ap (λ (z : ℕ). get_or (splice s (k + a) new) z 0) e
        ∙ splice_in s new (k + a) fit i (omega arith)
        ∙ sym (splice_in (part s k n) new a fit' i (omega arith))
        ∙ ap (λ (z : ℕ). get_or (splice (part s k n) a new) z 0) f
    later j b c (no d) = out j b (splice_after s new (k + a) fit (k + j) (omega arith))
        (splice_after (part s k n) new a fit' j (omega arith))

    at : (j : ℕ) → j < n → get_or (part (splice s (k + a) new) k n) j 0 ≡ get_or (splice (part s k n) a new) j 0
    at j b = go (dec_lt j a)
      where
        go : Dec (j < a) → get_or (part (splice s (k + a) new) k n) j 0 ≡ get_or (splice (part s k n) a new) j 0
        go (yes c) = out j b (splice_before s new (k + a) fit (k + j) (omega arith))
            (splice_before (part s k n) new a fit' j c)
        go (no c) = later j b (omega arith) (dec_lt j (a + length new))

-- the new bytes themselves
pub part-new : (s new : List ℕ) (k : ℕ) → k + length new ≤ length s → part (splice s k new) k (length new) ≡ new
part-new s new k h =
    ext_get_or 0 (part (splice s k new) k (length new)) new len
    (λ j m. let b : j < length new = rw len at m in get_d_part (splice s k new) k (length new) j b
    ∙ splice_in s new k h j b)
  where
    len : length (part (splice s k new) k (length new)) ≡ length new
    len = length_part (splice s k new) k (length new) (rw (length-splice s new k h) h)

-- a part of a part
pub part-part : (s : List ℕ) (k n a b : ℕ) → a + b ≤ n → k + n ≤ length s → part (part s k n) a b ≡ part s (k + a) b
part-part s k n a b h l =
    ext_get_or 0 (part (part s k n) a b) (part s (k + a) b) (len ∙ sym (length_part s (k + a) b (omega arith)))
    (λ j m. let c : j < b = rw len at m in
    get_d_part (part s k n) a b j c
    ∙ get_d_part s k n (a + j) (omega arith)
    ∙ ap (λ (z : ℕ). get_or s z 0) (sym (add_assoc k a j))
    ∙ sym (get_d_part s (k + a) b j c))
  where
    len : length (part (part s k n) a b) ≡ b
    len = length_part (part s k n) a b (rw (length_part s k n l) h)

-- what was spliced in at the start, taken back
pub splice_front : (s new : List ℕ) (n : ℕ) → length new ≡ n → take n (splice s 0 new) ≡ new
unfolding splice
splice_front s new n e = take_at new (drop (0 + length new) s) n e
