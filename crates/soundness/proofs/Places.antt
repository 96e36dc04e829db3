-- A test of places that lets those from n on pass is a test of the first n.
use Rattle.std.proofs.Common.{◌≡◌, ℕ, zero, suc, ◌+◌, ◌<◌, ◌≤◌, Bool, ◌&&◌, ◌||◌, leb, get_or, refl, ap, ◌∙◌, le_of_suc-le-suc, not-suc-le-zero, arith, le-leb}
use mathlib.Core.Bool.{and-true}
use native.Mathlib.Decide.{dec_le}
use borrow.Author.Tests.{lt-leb}
use Rattle.rules.specs.Drive.{most_objects}
use Rattle.state.specs.Table.{range}
use Rattle.soundness.specs.Spans.{each}

place_at : (a n k : ℕ) → k < n → get_or (range a n) k 0 ≡ a + k
place_at a zero k h = absurd (not-suc-le-zero h)
place_at a (suc n) zero h = omega arith
place_at a (suc n) (suc k) h = let e : (a + 1) + k ≡ a + suc k = omega arith in place_at (a + 1) n k (le_of_suc-le-suc h) ∙ e

pub place_is : (k : ℕ) → k < most_objects → get_or (range 0 most_objects) k 0 ≡ k
place_is k h = let e : 0 + k ≡ k = omega arith in place_at 0 most_objects k h ∙ e

-- tests that agree under m
each_same : (t u : ℕ → Bool) (m : ℕ) → ((k : ℕ) → k < m → t k ≡ u k) → each t m ≡ each u m
unfolding each
each_same t u zero e = refl
each_same t u (suc m) e = λ i. each_same t u m (λ k h. e k (omega arith)) i && e m (omega arith) i

pub each_first : (t : ℕ → Bool) (n m : ℕ) → n ≤ m → each (λ (k : ℕ). leb n k || t k) m ≡ each t n
unfolding each
each_first t n zero g = let e : 0 ≡ n = omega arith in ap (each t) e
each_first t n (suc m) g = elim (dec_le n m) [
  | yes l ↦ rw (le-leb n m l) (and-true (each (λ (k : ℕ). leb n k || t k) m) ∙ each_first t n m l)
  | no l ↦
      let e : suc m ≡ n = omega arith in
      each_same (λ (k : ℕ). leb n k || t k) t (suc m) (λ k h. ap (λ (b : Bool). b || t k) (lt-leb n k (omega arith)))
      ∙ ap (each t) e
]

-- the same, where the places are read from a list
pub each_placed : (t : ℕ → Bool) (n m : ℕ) → n ≤ m → m ≤ most_objects
    → each (λ (k : ℕ). leb n (get_or (range 0 most_objects) k 0) || t k) m ≡ each t n
each_placed t n m g h =
    each_same (λ (k : ℕ). leb n (get_or (range 0 most_objects) k 0) || t k) (λ (k : ℕ). leb n k || t k) m
    (λ k l. ap (λ (x : ℕ). leb n x || t k) (place_is k (omega arith))) ∙ each_first t n m g
