-- `octets::places::put_at` meets its contract.
use Prim.Native.Nat.{ℕ, suc, ◌+◌, ◌-◌, ◌%◌, ◌≤◌, ◌<◌}
use mathlib.Core.Path.{◌≡◌, sym}
use mathlib.Core.List.{List, [], ◌∷◌, ◌++◌, append_assoc}
use native.Mathlib.Nat.{add-suc, add-zero}
use native.Mathlib.Omega.{arith}
use lib.ListN.{length, take, drop, set, get_or, take-append-drop, drop_of_length-le}
use lib.Seq.{take-suc, drop-cons, set_at, length-take-le, take_all}
use Rattle.lemmas.specs.Lists.{splice}
use Rattle.lemmas.specs.BigEndian.{big_endian, length-big_endian}
use Rattle.lemmas.specs.Layout.{last_byte, first_bytes}
use Rattle.octets.proofs.places.put_at.Goals as goal

-- one byte more, at j, before those that are written
stored : (s s₀ b : List ℕ) (at n j y : ℕ) → at + n ≤ length s₀ → j < n → length b ≡ n → get_or b j 0 ≡ y
    → s ≡ take (at + suc j) s₀ ++ (drop (suc j) b ++ drop (at + n) s₀) → set s (at + j) y ≡ take (at + j) s₀ ++ (drop j b ++ drop (at + n) s₀)
stored s s₀ b at n j y fits below size is e =
    let d : List ℕ = drop (at + n) s₀ in
    let t : List ℕ = drop (suc j) b ++ d in
    let cut : take (at + suc j) s₀ ≡ take (at + j) s₀ ++ (get_or s₀ (at + j) 0 ∷ []) = rw (add-suc at j) (take-suc s₀ (at + j) 0 (omega arith)) in
    let whole : s ≡ take (at + j) s₀ ++ (get_or s₀ (at + j) 0 ∷ t) = rw (e, cut) (append_assoc (take (at + j) s₀) (get_or s₀ (at + j) 0 ∷ []) t) in
    let next : drop j b ≡ y ∷ drop (suc j) b = rw (drop-cons b j 0 (omega arith), is) in
    rw (whole, next) (set_at (take (at + j) s₀) (get_or s₀ (at + j) 0) t y (at + j) (length-take-le (at + j) s₀ (omega arith)))

pub loop-i-init : goal.loop-i-init
loop-i-init c =
    let a = c.args in
    let k : length (big_endian a.n a.x) ≡ a.n = length-big_endian a.n a.x in (
      rw (drop_of_length-le (big_endian a.n a.x) {i = a.n} (omega arith)) (sym (take-append-drop (a.at + a.n) a.s.now)),
      take_all a.n (big_endian a.n a.x) (omega arith),
    )

pub loop-i-preserved : goal.loop-i-preserved
loop-i-preserved c =
    let a = c.args in
    let l = c.loop-i in
    let j : ℕ = l.i - 1 in
    let one : l.i ≡ suc j = omega arith in
    let b : List ℕ = big_endian a.n a.x in
    let front : take (suc j) b ≡ big_endian (suc j) l.rest = rw one at l.invariant.1 in (
      stored l.s a.s.now b a.at a.n j (l.rest % 256) (omega arith) (omega arith) (length-big_endian a.n a.x) (last_byte b j l.rest front) (rw one at l.invariant.0),
      first_bytes b j l.rest front,
    )

pub returns : goal.returns
unfolding splice
returns c =
    let l = c.loop-i in
    let a = c.args in
    let e : l.i ≡ 0 = omega arith in
    rw (length-big_endian a.n a.x) (rw (e, add-zero) at l.invariant.0)
