-- One byte more of the text, and of the counting message: each is put at the end.
use mathlib.Core.Path.{◌≡◌, refl, sym, ap, ◌∙◌}
use mathlib.Core.List.{List, [], ◌∷◌, ◌++◌, append_assoc}
use Prim.Native.Nat.{ℕ, suc, ◌+◌, ◌*◌, ◌/◌, ◌%◌, ◌<◌}
use native.Mathlib.Numerals.{add-one}
use native.Mathlib.Omega.{arith}
use lib.ListN.{length, get_or, take, set, length-set}
use lib.Seq.{take-suc, take-suc-set}
use Rattle.digest_vectors.specs.Hex.{hex_digit, hex, count}

hex-append : (a b : List ℕ) → hex (a ++ b) ≡ hex a ++ hex b
unfolding hex
hex-append [] b = refl
hex-append (x ∷ a) b = rw (hex-append a b)

hex_more : (a : List ℕ) (b : ℕ) → hex (a ++ b ∷ []) ≡ hex a ++ (hex_digit (b / 16 % 16) ∷ hex_digit (b % 16) ∷ [])
unfolding hex
hex_more a b = hex-append a (b ∷ [])

pub hex_step : (text d : List ℕ) (i p q : ℕ) → 2 * i + 1 < length text → i < length d
    → take (2 * i) text ≡ hex (take i d)
    → p ≡ hex_digit (get_or d i 0 / 16 % 16) → q ≡ hex_digit (get_or d i 0 % 16)
    → take (2 * (i + 1)) (set (set text (2 * i) p) (2 * i + 1) q) ≡ hex (take (i + 1) d)
hex_step text d i p q ht hd e ep eq =
    let u : List ℕ = set text (2 * i) p in
    let n : 2 * (i + 1) ≡ suc (2 * i + 1) = omega arith in
    let lu : 2 * i + 1 < length u = rw (length-set text (2 * i) p) ht in
    let a : take (2 * i + 1) u ≡ take (2 * i) text ++ p ∷ [] =
    ap (λ (k : ℕ). take k u) (add-one (2 * i)) ∙ take-suc-set text (2 * i) p (omega arith) in
    ap (λ (k : ℕ). take k (set u (2 * i + 1) q)) n
    ∙ take-suc-set u (2 * i + 1) q lu
    ∙ (rw (a, append_assoc (take (2 * i) text) (p ∷ []) (q ∷ []), e, ep, eq))
    ∙ sym (hex_more (take i d) (get_or d i 0))
    ∙ ap hex (sym (ap (λ (k : ℕ). take k d) (add-one i) ∙ take-suc d i 0 hd))

pub count_step : (b : List ℕ) (i : ℕ) → i < length b → take i b ≡ count i → take (i + 1) (set b i i) ≡ count (i + 1)
unfolding count
count_step b i h e = rw (add-one i, take-suc-set b i i h, e)
