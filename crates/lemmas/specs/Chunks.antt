-- A list as n chunks of one size, which stand one after the other: how many, the i-th, the first k and those behind them, two
-- lists of chunks one behind the other, another chunk in its place, and a store or another front in a chunk.
use Rattle.std.specs.Prelude.{◌≡◌, get_or, set}
use Rattle.std.proofs.Math.Path.{refl, ap}
use Rattle.std.proofs.Common.{sym, ◌∙◌, not-suc-le-zero, le_of_suc-le-suc, mul-le-mul_left, zero-add, suc-add, length-set, take-append-drop, drop_at, drop-drop, drop-set-lt, take-add}
use mathlib.Core.List.{List, [], ◌∷◌, ◌++◌, append_assoc}
use Prim.Native.Nat.{ℕ, zero, suc, ◌+◌, ◌-◌, ◌*◌, ◌≤◌, ◌<◌}
use native.Mathlib.Omega.{arith}
use Rattle.std.proofs.Math.ListN.{length, take, drop, length-drop}
use Rattle.std.proofs.lemmas.List.{drop-append-le, drop-set-add, take-set-le}
use Rattle.std.proofs.Math.Seq.{length-take-le, take-append-le, take_at, take-nil, take-set-lt, take-take}
use Rattle.lemmas.specs.Fronts.{with_front, front_length}

module _ {A : Type 0} where
  -- the first n + m without the first n
  drop-take : (n m : ℕ) (l : List A) → drop n (take (n + m) l) ≡ take m (drop n l)
  drop-take zero m l = ap (λ (k : ℕ). take k l) (zero-add m)
  drop-take (suc n) m [] = ap (λ (k : ℕ). drop (suc n) (take k [])) (suc-add n m) ∙ sym (take-nil m)
  drop-take (suc n) m (x ∷ l) = ap (λ (k : ℕ). drop (suc n) (take k (x ∷ l))) (suc-add n m) ∙ drop-take n m l

module _ {A : Type 0} (size : ℕ) where
  unfoldable pub chunks : ℕ → List A → List (List A)
  chunks zero l = []
  chunks (suc n) l = take size l ∷ chunks n (drop size l)

  -- the chunk that starts at place a, and another in its place
  abbrev pub chunk_at : ℕ → List A → List A
  chunk_at a l = take size (drop a l)

  abbrev pub chunk_put : ℕ → List A → List A → List A
  chunk_put a l u = take a l ++ (u ++ drop size (drop a l))

  pub chunks-length : (n : ℕ) (l : List A) → length (chunks n l) ≡ n
  unfolding chunks
  chunks-length zero l = refl
  chunks-length (suc n) l = ap suc (chunks-length n (drop size l))

  pub chunks_at : (n i : ℕ) (l : List A) → i < n → get_or (chunks n l) i [] ≡ chunk_at (size * i) l
  unfolding chunks
  chunks_at zero i l h = absurd (not-suc-le-zero h)
  chunks_at (suc n) zero l h = let e : size * zero ≡ 0 = omega arith in rw e refl
  chunks_at (suc n) (suc i) l h =
      let e : size + size * i ≡ size * suc i = omega arith in
      chunks_at n i (drop size l) (le_of_suc-le-suc h) ∙ ap (take size) (drop-drop (size * i) size l)
      ∙ ap (λ (a : ℕ). chunk_at a l) e

  pub chunks-take : (k n : ℕ) (l : List A) → k ≤ n → chunks k (take (size * k) l) ≡ take k (chunks n l)
  unfolding chunks
  chunks-take zero n l h = refl
  chunks-take (suc k) zero l h = absurd (not-suc-le-zero h)
  chunks-take (suc k) (suc n) l h =
      let e : size * suc k ≡ size + size * k = omega arith in
      ap (λ (a : ℕ). chunks (suc k) (take a l)) e
      ∙ (λ j. take-take size (size + size * k) l (omega arith) j ∷ chunks k (drop-take size (size * k) l j))
      ∙ ap (λ (x : List (List A)). take size l ∷ x) (chunks-take k n (drop size l) (le_of_suc-le-suc h))

  pub chunks-drop : (k n : ℕ) (l : List A) → chunks n (drop (size * k) l) ≡ drop k (chunks (k + n) l)
  unfolding chunks
  chunks-drop zero n l =
      let e : size * zero ≡ 0 = omega arith in
      ap (λ (a : ℕ). chunks n (drop a l)) e ∙ ap (λ (m : ℕ). chunks m l) (sym (zero-add n))
  chunks-drop (suc k) n l =
      let e : size * suc k ≡ size + size * k = omega arith in
      ap (λ (a : ℕ). chunks n (drop a l)) e ∙ ap (chunks n) (sym (drop-drop (size * k) size l))
      ∙ chunks-drop k n (drop size l) ∙ ap (λ (m : ℕ). drop (suc k) (chunks m l)) (sym (suc-add k n))

  pub chunks-append : (n m : ℕ) (l r : List A) → length l ≡ size * n → chunks (n + m) (l ++ r) ≡ chunks n l ++ chunks m r
  unfolding chunks
  chunks-append zero m [] r e = ap (λ (k : ℕ). chunks k r) (zero-add m)
  chunks-append zero m (x ∷ l) r e = absurd (omega arith)
  chunks-append (suc n) m l r e =
      let first : size ≤ length l = omega arith in
      let rest : length (drop size l) ≡ size * n = length-drop size l ∙ omega arith in
      ap (λ (k : ℕ). chunks k (l ++ r)) (suc-add n m)
      ∙ (λ j. take-append-le size l r first j ∷ chunks (n + m) (drop-append-le size l r first j))
      ∙ ap (λ (x : List (List A)). take size l ∷ x) (chunks-append n m (drop size l) r rest)

  pub chunks_put : (n i : ℕ) (l u : List A) → i < n → size * n ≤ length l → length u ≡ size
      → chunks n (chunk_put (size * i) l u) ≡ set (chunks n l) i u
  unfolding chunks
  chunks_put zero i l u h w k = absurd (not-suc-le-zero h)
  chunks_put (suc n) zero l u h w k =
      let e : size * zero ≡ 0 = omega arith in
      rw e (λ j. take_at u (drop size l) size k j ∷ chunks n (drop_at u (drop size l) size k j))
  chunks_put (suc n) (suc i) l u h w k =
      let first : length (take size l) ≡ size = length-take-le size l (omega arith) in
      let rest = chunk_put (size * i) (drop size l) u in
      let long : length (drop size l) ≡ length l - size = length-drop size l in
      let a : size * suc i ≡ size + size * i = omega arith in
      let split : chunk_put (size * suc i) l u ≡ take size l ++ rest =
      ap (λ (b : ℕ). chunk_put b l u) a
      ∙ ap (λ (x : List A). x ++ (u ++ drop size (drop (size + size * i) l))) (take-add size (size * i) l)
      ∙ append_assoc (take size l) (take (size * i) (drop size l)) (u ++ drop size (drop (size + size * i) l))
      ∙ ap (λ (x : List A). take size l ++ (take (size * i) (drop size l) ++ (u ++ drop size x)))
      (sym (drop-drop (size * i) size l)) in
      ap (chunks (suc n)) split
      ∙ (λ j. take_at (take size l) rest size first j ∷ chunks n (drop_at (take size l) rest size first j))
      ∙ ap (λ (x : List (List A)). take size l ∷ x) (chunks_put n i (drop size l) u (le_of_suc-le-suc h) (omega arith) k)

  -- the i-th of n chunks, all of which l has
  module _ (n i : ℕ) (l : List A) (h : i < n) (w : size * n ≤ length l) where
    abbrev chunk : List A
    chunk = chunk_at (size * i) l

    pub chunk_inside : size * i + size ≤ length l
    chunk_inside = omega (arith, mul-le-mul_left size h)

    pub chunk-length : length chunk ≡ size
    chunk-length = length-take-le size (drop (size * i) l) (omega (arith, chunk_inside, length-drop (size * i) l))

    -- p stands in the place of its first elements
    pub chunks-front : (p : List A) → length p ≤ size
        → chunks n (take (size * i) l ++ (p ++ drop (length p) (drop (size * i) l)))
        ≡ set (chunks n l) i (with_front p chunk)
    chunks-front p k =
        let rest = drop (size * i) l in
        let behind : drop (length p) rest ≡ drop (length p) chunk ++ drop size rest =
        ap (drop (length p)) (sym (take-append-drop size rest))
        ∙ drop-append-le (length p) chunk (drop size rest) (omega (arith, chunk-length)) in
        ap (λ (x : List A). chunks n (take (size * i) l ++ x))
        (ap (λ (x : List A). p ++ x) behind ∙ sym (append_assoc p (drop (length p) chunk) (drop size rest)))
        ∙ chunks_put n i l (with_front p chunk) h w
        (front_length p chunk (omega (arith, chunk-length)) ∙ chunk-length)

    -- x is stored at its place k
    pub chunks-set : (k : ℕ) (x : A) → k < size → chunks n (set l (size * i + k) x) ≡ set (chunks n l) i (set chunk k x)
    chunks-set k x m =
        let rest = drop (size * i) l in
        let into : set l (size * i + k) x ≡ chunk_put (size * i) l (set chunk k x) =
        sym (take-append-drop (size * i) (set l (size * i + k) x))
        ∙ rw (
          take-set-le (size * i) l (size * i + k) x (omega arith),
          drop-set-add (size * i) l k x,
          ← take-append-drop size (set rest k x),
          take-set-lt size rest k x m,
          drop-set-lt size rest k x m,
        ) refl in
        ap (chunks n) into ∙ chunks_put n i l (set chunk k x) h w (length-set chunk k x ∙ chunk-length)
