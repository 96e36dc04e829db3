-- An entry is four numbers and a time (some_held). The search may be over the numbers of as many entries as there are (fewer).
use Rattle.std.proofs.Common.{◌≡◌, Bool, ℕ, zero, suc, ◌+◌, ◌-◌, ◌*◌, ◌/◌, ◌<◌, ◌≤◌, List, [], ◌∷◌, length, take, drop, sym, refl, ap, ◌∙◌, arith, take-take, length-take-le, rules}
use Rattle.std.specs.Prelude.{min}
use Rattle.std.specs.List.{list_any, zip}
use Rattle.std.specs.Simd.{first_chunks}
use Rattle.std.proofs.lemmas.List.{drop-take}
use Rattle.rules.specs.declared.Entry.{Entry}
use Rattle.rules.specs.Drive.{same_entry}
use Rattle.memory.specs.Memory.{entry_of}
use Rattle.memory.specs.Entries.{some_held}
use Rattle.memory.proofs.holds.Goals as goal

-- the first k are those of a row cut behind them
front : (k m : ℕ) (es : List ℕ) → k * 4 ≤ m → first_chunks 4 k (take m es) ≡ first_chunks 4 k es
front zero m es h = refl
front (suc k) m es h =
    let more : m ≡ 4 + (m - 4) = omega arith in
    let rest : drop 4 (take m es) ≡ take (m - 4) (drop 4 es) = ap (λ (n : ℕ). drop 4 (take n es)) more ∙ drop-take 4 (m - 4) es in
    let one : take 4 (take m es) ≡ take 4 es = take-take 4 m es (omega arith) in
    rw (one, rest, front k (m - 4) (drop 4 es) (omega arith)) refl

-- a row of k times meets no more than k of them
short : (k n : ℕ) (es ts : List ℕ) → k ≤ n → (k < n → length ts ≤ k) → zip (first_chunks 4 k es) ts ≡ zip (first_chunks 4 n es) ts
short zero zero es ts h f = refl
short zero (suc n) es [] h f = refl
short zero (suc n) es (t ∷ ts) h f = absurd (omega (arith, f (omega arith)))
short (suc k) zero es ts h f = absurd (omega arith)
short (suc k) (suc n) es [] h f = refl
short (suc k) (suc n) es (t ∷ ts) h f =
    ap (λ (r : List (List ℕ × ℕ)). (take 4 es, t) ∷ r) (short k n (drop 4 es) ts (omega arith) (λ l. omega (arith, f (omega arith))))

fewer : (k : ℕ) (xs : List (List ℕ)) (es ts : List ℕ) → xs ≡ first_chunks 4 (length (take (k * 4) es) / 4) (take (k * 4) es)
    → k ≡ min (length es / 4) (length ts) → zip xs ts ≡ zip (first_chunks 4 (length es / 4) es) ts
fewer k xs es ts e f =
    let long : length (take (k * 4) es) ≡ k * 4 = length-take-le (k * 4) es (omega arith) in
    let count : length (take (k * 4) es) / 4 ≡ k = omega arith in
    rw (e, count, front k (k * 4) es (omega arith)) (short k (length es / 4) es ts (omega arith) (λ l. omega arith))

held_by : (e : Entry) (r : Bool) (xs zs : List (List ℕ)) (ys ws : List ℕ) → r ≡ list_any (λ (p : List ℕ × ℕ). same_entry e (entry_of p.0 p.1)) (zip xs ys)
    → zip xs ys ≡ zip zs ws → r ≡ list_any (λ (p : List ℕ × ℕ). same_entry e (entry_of p.0 p.1)) (zip zs ws)
held_by e r xs zs ys ws h f = rw (← f) h

pub returns : goal.returns
returns c =
    let a = c.args in
    let held = some_held (same_entry a.e) a.entries.now a.times.now in
    held_by a.e c.any_same.result _ _ _ a.times.now c.any_same.ensures (first_of (search rules, search (rules, fewer))) ∙ sym held
