-- Fields passed one by one. ws: their widths, v: their numbers.
use mathlib.Core.Path.{◌≡◌, refl, sym, ap, ◌∙◌}
use mathlib.Core.Bool.{Bool, true, false, ◌&&◌, ◌||◌, not, and-false}
use mathlib.Core.List.{List, [], ◌∷◌, ◌++◌, append_assoc, append-nil}
use Prim.Native.Nat.{ℕ, suc, ◌+◌, ◌-◌, ◌≤◌, ◌<◌}
use native.Mathlib.Nat.{add_comm}
use native.Mathlib.Decide.{dec_le}
use native.Mathlib.Numerals.{add-one}
use native.Mathlib.Omega.{arith}
use lib.Dec.{leb, leb-zero}
use lib.ListN.{length, get_or, take, drop, set, drop_of_length-le}
use lib.Seq.{drop-cons, take_all, take-suc-set}
use borrow.Author.Tests.{leb-true, leb-false, le-leb, lt-leb, le-ltb, lt-ltb, eqb-true}
use Rattle.lemmas.specs.Tests.{◌is◌, ◌isnt◌, ◌over◌, and_l, and_r}
use Rattle.lemmas.specs.Lists.{every, splice}
use Rattle.lemmas.specs.BigEndian.{number_at, big_endian, layout_size, read_all, encode, length-big_endian, length-encode}
use Rattle.lemmas.specs.Layout.{splice_after_size, splice_none}
use Rattle.octets.specs.Fields.{narrow, fields_fit}

-- a difference is compared in place of a sum
pub moved : (len at n : ℕ) → n ≤ len → leb at (len - n) ≡ leb (at + n) len
moved len at n h = go (leb at (len - n)) refl
  where
    go : (b : Bool) → leb at (len - n) ≡ b → b ≡ leb (at + n) len
    go true e = sym (le-leb (at + n) len (omega (arith, leb-true at (len - n) e)))
    go false e = sym (lt-leb (at + n) len (omega (arith, leb-false at (len - n) e)))

-- ---- the test: n bytes have room for the fields that are left. Before the first field, at each, behind the last
abbrev pub fit_in : List ℕ → ℕ → Bool
fit_in ws n = every narrow ws && leb (layout_size ws) n

-- i bytes are cut off both sides
cut : (t : Bool) (i size n : ℕ) → i ≤ n → (t && leb (i + size) n) ≡ (t && leb size (n - i))
cut t i size n h = ap (λ (b : Bool). t && b) (ap (λ (k : ℕ). leb k n) (add_comm i size) ∙ sym (moved n size i h))

pub fit_start : (len at : ℕ) (ws : List ℕ) (count : ℕ)
    → fields_fit len at ws count ≡ (not (at over len || count isnt length ws) && fit_in ws (len - at))
fit_start len at ws count = go (dec_le at len) (count is length ws)
  where
    go : Dec (at ≤ len) → (b : Bool)
        → (b && every narrow ws && leb (at + layout_size ws) len) ≡ (not (at over len || not b) && fit_in ws (len - at))
    go (yes h) true = rw (le-ltb len at h) (cut (every narrow ws) at (layout_size ws) len h)
    go (yes h) false = rw (le-ltb len at h) refl
    go (no h) b = rw (lt-ltb len at (omega arith), lt-leb (at + layout_size ws) len (omega arith)) (and-false (b && every narrow ws))

pub fit_step : (w : ℕ) (ws : List ℕ) (n : ℕ) → fit_in (w ∷ ws) n ≡ (not (w over 8 || w over n) && fit_in ws (n - w))
unfolding every layout_size
fit_step w ws n = go (dec_le w 8) (dec_le w n)
  where
    go : Dec (w ≤ 8) → Dec (w ≤ n)
        → (narrow w && every narrow ws && leb (w + layout_size ws) n) ≡ (not (w over 8 || w over n) && fit_in ws (n - w))
    go (yes a) (yes b) = rw (le-leb w 8 a, le-ltb 8 w a, le-ltb n w b) (cut (every narrow ws) w (layout_size ws) n b)
    go (yes a) (no b) =
        rw (le-leb w 8 a, le-ltb 8 w a, lt-ltb n w (omega arith), lt-leb (w + layout_size ws) n (omega arith))
        (and-false (every narrow ws))
    go (no a) b = rw (lt-leb w 8 (omega arith), lt-ltb 8 w (omega arith)) refl

pub fit_end : (ws : List ℕ) (i n : ℕ) → length ws ≤ i → fit_in (drop i ws) n ≡ true
unfolding every layout_size
fit_end ws i n h = rw (drop_of_length-le ws {i = i} h) (leb-zero n)

-- ---- a loop over fields that fit into len bytes, at the field i, which is at place
pub field_first : (v : List ℕ) (i : ℕ) → i < length v → drop i v ≡ get_or v i 0 ∷ drop (i + 1) v
field_first v i h = rw (drop-cons v i 0 h, ← add-one i) refl

pub record Ahead (ws : List ℕ) (i place len : ℕ) : Type 0 where
  pub passed : i ≤ length ws
  pub small : every narrow (drop i ws) ≡ true
  pub room : place + layout_size (drop i ws) ≤ len

pub ahead_start : (ws : List ℕ) (at len count : ℕ) → fields_fit len at ws count ≡ true
    → (count ≡ length ws) × Ahead ws 0 at len
ahead_start ws at len count h =
    let front = and_l (count is length ws && every narrow ws) (leb (at + layout_size ws) len) h in (
      eqb-true count (length ws) (and_l (count is length ws) (every narrow ws) front),
      record {
        passed = omega arith;
        small = and_r (count is length ws) (every narrow ws) front;
        room = leb-true (at + layout_size ws) len (and_r (count is length ws && every narrow ws) (leb (at + layout_size ws) len) h);
      },
    )

module _ (ws : List ℕ) (i place len : ℕ) (a : Ahead ws i place len) (h : i < length ws) where
  abbrev w : ℕ
  w = get_or ws i 0

  abbrev rest : List ℕ
  rest = drop (i + 1) ws

  small : (narrow w && every narrow rest) ≡ true
  unfolding every
  small = rw (field_first ws i h) at a.small

  room : place + (w + layout_size rest) ≤ len
  unfolding layout_size
  room = rw (field_first ws i h) at a.room

  pub field_fits : (place + w ≤ len) × (w ≤ 8)
  field_fits = (omega (arith, room), leb-true w 8 (and_l (narrow w) (every narrow rest) small))

  pub ahead_next : Ahead ws (i + 1) (place + w) len
  ahead_next = record { passed = omega arith; small = and_r (narrow w) (every narrow rest) small; room = omega (arith, room) }

  -- one number more is read
  pub read_step : (s v : List ℕ) → i < length v
      → take (i + 1) (set v i (number_at s place w)) ++ read_all s (place + w) rest ≡ take i v ++ read_all s place (drop i ws)
  unfolding read_all
  read_step s v l =
      rw (field_first ws i h, add-one i, take-suc-set v i (number_at s place w) l)
      (append_assoc (take i v) (number_at s place w ∷ []) (read_all s (place + w) (drop (suc i) ws)))

  -- one number more is written
  pub write_step : (s v : List ℕ) → i < length v → length s ≡ len
      → splice (splice s place (big_endian w (get_or v i 0))) (place + w) (encode rest (drop (i + 1) v))
      ≡ splice s place (encode (drop i ws) (drop i v))
  unfolding encode
  write_step s v l e =
      let b : List ℕ = big_endian w (get_or v i 0) in
      rw (field_first ws i h, field_first v i l)
      (splice_after_size s b (encode rest (drop (i + 1) v)) place (place + w)
      (ap (λ (k : ℕ). place + k) (length-big_endian w (get_or v i 0)))
      (omega (arith, length-encode rest (drop (i + 1) v), room, e)))

-- and behind the last field
pub read-end : (ws v s : List ℕ) (i place : ℕ) → length ws ≤ i → length v ≡ length ws
    → take i v ++ read_all s place (drop i ws) ≡ v
unfolding read_all
read-end ws v s i place h e = rw (drop_of_length-le ws {i = i} h, take_all i v (omega arith)) (append-nil v)

pub write-end : (ws v s : List ℕ) (i place : ℕ) → length ws ≤ i → splice s place (encode (drop i ws) (drop i v)) ≡ s
unfolding encode
write-end ws v s i place h = rw (drop_of_length-le ws {i = i} h) (splice_none s place)
