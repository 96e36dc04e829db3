-- The quick pass over a memory's times: where an or of numbers is under 2^63 each of them is, and no difference wrapped.
use Rattle.std.proofs.Common.{◌≡◌, ℕ, ◌+◌, ◌-◌, ◌%◌, ◌^◌, ◌<◌, ◌≤◌, false, ltb, List, length, get_or, take, arith, le-ltb}
use lib.Bits.{bit_or, or_add_and, and_le_l, and_le_r}
use Rattle.lemmas.specs.Lists.{some?}
use Rattle.lemmas.specs.Loops.{some_take}

-- an or is at least each of the two
or_over_l : (a b : ℕ) → a ≤ bit_or a b
or_over_l a b = omega (arith, or_add_and a b, and_le_r a b)

or_over_r : (a b : ℕ) → b ≤ bit_or a b
or_over_r a b = omega (arith, or_add_and a b, and_le_l a b)

-- seen: the or of the floor and of the differences to the first i of l; d: the next difference, which may have wrapped
abbrev pub difference : ℕ → ℕ → ℕ
difference time floor = (time + (2 ^ 64 - floor)) % 2 ^ 64

pub quick_high : (floor seen d : ℕ) → floor ≤ seen → floor ≤ bit_or seen d
quick_high floor seen d high = omega (arith, or_over_l seen d)

pub quick_more : (l : List ℕ) (i floor seen : ℕ) → i < length l → get_or l i 0 < 2 ^ 64 → floor < 2 ^ 64 → floor ≤ seen
    → (seen < 2 ^ 63 → some? (λ (t : ℕ). ltb t floor) (take i l) ≡ false)
    → bit_or seen (difference (get_or l i 0) floor) < 2 ^ 63 → some? (λ (t : ℕ). ltb t floor) (take (i + 1) l) ≡ false
quick_more l i floor seen h fits small high none q =
    let d : ℕ = difference (get_or l i 0) floor in
    let low : seen < 2 ^ 63 = omega (arith, or_over_l seen d) in
    let near : d < 2 ^ 63 = omega (arith, or_over_r seen d) in
    let above : floor ≤ get_or l i 0 = omega arith in
    rw (some_take (λ (t : ℕ). ltb t floor) l i 0 h, none low, le-ltb (get_or l i 0) floor above)
