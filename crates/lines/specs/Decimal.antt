-- Laws of numbers in decimal: one digit more in front of a text, and how long a number and a line can be.
use Rattle.std.specs.Prelude.{◌≡◌, refl, Bool, true, false, cond, List, [], ◌∷◌, ◌++◌, ℕ, zero, suc, ◌+◌, ◌*◌, ◌/◌, ◌%◌, ◌^◌, ◌≤◌, ◌<◌, leb, eqb, length, take, drop, set}
use Rattle.std.proofs.Common.{sym, ap, ◌∙◌, append_assoc, pow-suc, arith, length-append, drop_at, length-take-le, lt-ltb, le-ltb, leb-true}
use Rattle.std.proofs.Math.Decide.{dec_lt}
use Rattle.std.proofs.lemmas.List.{set_split}
use Rattle.rules.specs.Program.{digits, decimal, printed}
use Rattle.rules.specs.Report.{Count, none, place_name, count_line, total}
use Rattle.lines.specs.Text.{place_after}

-- ---- digits, the last one apart
pub digits_one : (f n : ℕ) → n < 10 → digits (suc f) n ≡ (48 + n) ∷ []
unfolding digits
digits_one f n h = rw (lt-ltb n 10 h, digits) refl

pub digits_more : (f n : ℕ) → 10 ≤ n → digits (suc f) n ≡ digits f (n / 10) ++ ((48 + n % 10) ∷ [])
unfolding digits
digits_more f n h = rw (le-ltb n 10 h, digits) refl

-- a byte stored in front of a text
pub stored_before : (s : List ℕ) (i x : ℕ) → i < length s → drop i (set s i x) ≡ x ∷ drop (suc i) s
stored_before s i x h =
    rw (set_split s i x h) (drop_at (take i s) (x ∷ drop (suc i) s) i (length-take-le i s (omega arith)))

-- where the text w is the digits of n and then the bytes behind place i, it still is when the last digit moves to i
pub digit-stored : (f n i : ℕ) (s w : List ℕ) → 10 ≤ n → i < length s → digits (suc f) n ++ drop (suc i) s ≡ w
    → digits f (n / 10) ++ drop i (set s i (48 + n % 10)) ≡ w
digit-stored f n i s w h l e =
    rw (stored_before s i (48 + n % 10) l)
    (sym (append_assoc (digits f (n / 10)) ((48 + n % 10) ∷ []) (drop (suc i) s))
    ∙ ap (λ (p : List ℕ). p ++ drop (suc i) s) (sym (digits_more f n h))
    ∙ e)

pub digit-stored_first : (f n i : ℕ) (s w : List ℕ) → n < 10 → i < length s → digits (suc f) n ++ drop (suc i) s ≡ w
    → drop i (set s i (48 + n)) ≡ w
digit-stored_first f n i s w h l e =
    rw (stored_before s i (48 + n) l)
    (ap (λ (p : List ℕ). p ++ drop (suc i) s) (sym (digits_one f n h)) ∙ e)

-- a number of two digits or more has a digit to come, and fewer are left
pub digits_left : (f n : ℕ) → 10 ≤ n → n < 10 ^ suc f → (0 < f) × (n / 10 < 10 ^ f)
digits_left zero n h l = absurd (omega arith)
digits_left (suc f) n h l = (omega arith, let e : n < 10 ^ suc f * 10 = rw (pow-suc 10 (suc f)) at l in omega arith)

-- ---- lengths: a number has at most twenty digits, a line at most 63 bytes
pub length_digits : (f n : ℕ) → length (digits f n) ≤ f
unfolding digits
length_digits zero n = omega arith
length_digits (suc f) n = go (dec_lt n 10) (length_digits f (n / 10))
  where
    go : Dec (n < 10) → length (digits f (n / 10)) ≤ f → length (digits (suc f) n) ≤ suc f
    go (yes h) k = rw (digits_one f n h) (omega arith)
    go (no h) k =
        rw (digits_more f n (omega arith))
        (omega (arith, k, length-append (digits f (n / 10)) ((48 + n % 10) ∷ [])))

pub length-printed : (n row size : ℕ) → length (printed n row size) ≤ 63
length-printed n row size =
    let third : List ℕ = decimal size ++ (10 ∷ []) in
    let second : List ℕ = decimal row ++ (32 ∷ third) in
    omega (
      arith,
      length_digits 20 n,
      length_digits 20 row,
      length_digits 20 size,
      length-append (decimal size) (10 ∷ []),
      length-append (decimal row) (32 ∷ third),
      length-append (decimal n) (32 ∷ second),
    )

length_name : (place : ℕ) → length (place_name place) ≤ 20
length_name place = go (eqb place none)
  where
    go : (b : Bool) → length (cond b (110 ∷ 111 ∷ 110 ∷ 101 ∷ []) (decimal place)) ≤ 20
    go true = omega arith
    go false = length_digits 20 place

pub length-count-line : (c : Count) → length (count_line c) ≤ 63
length-count-line c =
    let third : List ℕ = decimal c.count ++ (10 ∷ []) in
    let second : List ℕ = decimal c.row ++ (32 ∷ third) in
    omega (
      arith,
      length_name c.place,
      length_digits 20 c.row,
      length_digits 20 c.count,
      length-append (decimal c.count) (10 ∷ []),
      length-append (decimal c.row) (32 ∷ third),
      length-append (place_name c.place) (32 ∷ second),
    )

pub length-total : (n : ℕ) → length (total n) ≤ 63
length-total n = omega (arith, length_digits 20 n, length-append (decimal n) (10 ∷ []))

-- ---- the place after a text lies within the space, as its own place does
pub place-within : (size i n : ℕ) → i ≤ size → place_after size i n ≤ size
place-within size i n h = go (leb (i + n) size) refl
  where
    go : (b : Bool) → leb (i + n) size ≡ b → cond b (i + n) i ≤ size
    go true e = leb-true (i + n) size e
    go false e = h
