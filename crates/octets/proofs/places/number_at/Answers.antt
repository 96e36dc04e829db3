-- `octets::places::number_at` meets its contract.
use Rattle.std.proofs.Common.{List, take, drop, length-take, get_or-take, get_or-drop, ◌≡◌, ℕ, ◌+◌, ◌-◌, ◌<◌, ◌^◌, get_or, sym, ◌∙◌, arith, lit<}
use native.Mathlib.Nat.{pow-le-pow_right}
use Rattle.lemmas.specs.Layout.{number_none, number_next, bound_next}
use Rattle.octets.proofs.places.number_at.Goals as goal

-- below eight bytes, one more fits
room : (r i : ℕ) → r < 256 ^ i → i < 8 → r < 256 ^ 7
room r i h l = omega (arith, pow-le-pow_right {n = 256} (lit< tt) {i = i} {j = 7} (omega arith))

-- the part's byte i is the slice's byte at + i
next : (s : List ℕ) (at n i : ℕ) → i < n → get_or (take (at + n - at) (drop at s)) i 0 ≡ get_or s (at + i) 0
next s at n i h = get_or-take (at + n - at) (drop at s) i 0 (omega arith) ∙ get_or-drop at s i 0

pub loop-byte-init : goal.loop-byte-init
loop-byte-init c = (sym (number_none _ _), omega arith)

pub overflow_mul-r : goal.overflow_mul-r
overflow_mul-r c =
    let l = c.loop-byte in
    omega (arith, room l.r l.byte-index l.invariant.1 (omega (arith, length-take {A = ℕ})))

pub overflow_add-r : goal.overflow_add-r
overflow_add-r c =
    let l = c.loop-byte in
    omega (arith, room l.r l.byte-index l.invariant.1 (omega (arith, length-take {A = ℕ})), next c.args.s.now c.args.at c.args.n l.byte-index (omega (arith, length-take {A = ℕ})), c.type_inv.s (c.args.at + l.byte-index))

pub loop-byte-preserved : goal.loop-byte-preserved
loop-byte-preserved c =
    let l = c.loop-byte in
    let a = c.args in
    let e : c.from.result ≡ get_or a.s.now (a.at + l.byte-index) 0 =
    c.from.ensures ∙ next a.s.now a.at a.n l.byte-index (omega (arith, length-take {A = ℕ})) in
    (omega (arith, number_next a.s.now a.at l.byte-index), bound_next l.byte-index l.invariant.1 (omega (arith, c.type_inv.s (a.at + l.byte-index))))
