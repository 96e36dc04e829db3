-- Runs of one value, and stores one after the other: what stands in a list then.
use Rattle.std.specs.Prelude.{◌≡◌, refl, List, [], ◌∷◌, ◌++◌, ℕ, zero, suc, ◌+◌, ◌-◌, ◌≤◌, length, get_or, take, drop, set, replicate}
use Rattle.std.proofs.Common.{sym, ap, ◌∙◌, append-nil, zero-add, add-one, arith, length-append, drop_of_length-le, take_at, drop_at, length-take-le}
use Rattle.std.proofs.lemmas.List.{length-replicate, replicate-append-replicate}
use Rattle.std.proofs.lemmas.List.Edits.{sets, sets-eq}
use Rattle.lemmas.specs.Lists.{splice}

-- each place of a run, and each past its end where its value stands for those
pub replicate_at : {A : Type 0} (n k : ℕ) (v : A) → get_or (replicate n v) k v ≡ v
replicate_at zero k v = refl
replicate_at (suc n) zero v = refl
replicate_at (suc n) (suc k) v = replicate_at n k v

-- a run without its first n
pub drop-replicate : (n m v : ℕ) → n ≤ m → drop n (replicate m v) ≡ replicate (m - n) v
drop-replicate n m v h =
    let e : m ≡ n + (m - n) = omega arith in
    ap (λ k. drop n (replicate k v)) e ∙ ap (drop n) (sym (replicate-append-replicate n (m - n) v))
    ∙ drop_at (replicate n v) (replicate (m - n) v) n (length-replicate n v)

-- stores from i on up to the end of the list
pub sets_end : (vs p : List ℕ) (i : ℕ) → length p ≡ i + length vs → sets p i vs ≡ take i p ++ vs
sets_end vs p i e =
    sets-eq vs p i (omega arith) ∙ rw (drop_of_length-le p {i = i + length vs} (omega arith), append-nil)

-- four stores in a row, from k on
pub sets_four : (p : List ℕ) (k a b c d : ℕ) → k + 4 ≤ length p
    → take (k + 4) (set (set (set (set p k a) (k + 1) b) (k + 2) c) (k + 3) d) ≡ take k p ++ (a ∷ b ∷ c ∷ d ∷ [])
sets_four p k a b c d h =
    let v : List ℕ = a ∷ b ∷ c ∷ d ∷ [] in
    let e₂ : k + 2 ≡ suc (suc k) = omega arith in
    let e₃ : k + 3 ≡ suc (suc (suc k)) = omega arith in
    let l : length (take k p ++ v) ≡ k + 4 =
    length-append (take k p) v ∙ ap (λ (n : ℕ). n + 4) (length-take-le k p (omega arith)) in
    rw (add-one k, e₂, e₃) (ap (take (k + 4)) (sets-eq v p k h) ∙ take_at (take k p ++ v) (drop (k + 4) p) (k + 4) l)

-- a list put at the start of a run
pub splice-replicate : (k : List ℕ) (n v : ℕ) → length k ≤ n → splice (replicate n v) 0 k ≡ k ++ replicate (n - length k) v
unfolding splice
splice-replicate k n v h = rw (zero-add (length k), drop-replicate (length k) n v h)
