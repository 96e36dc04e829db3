-- Document 01, operation 2: "a write lends on only the object's own part of the medium". What a callee that was lent a
-- part left there, said of the whole medium.
use Rattle.std.specs.Prelude.{◌≡◌, refl, Bool, true, false, cond, List, ◌++◌, ℕ, ◌+◌, ◌-◌, ◌≤◌, length, take, drop, leb}
use Rattle.std.proofs.Common.{sym, ap, ◌∙◌, append_assoc, arith, length-drop, take-append-drop, take-take, drop-drop, length-take-le, take-add, leb-true}
use Rattle.std.proofs.lemmas.List.{drop-append-le}
use Rattle.lemmas.specs.Lists.{splice}
use Rattle.octets.specs.Numbers.{bytes_put}

-- the k elements from a on, with b at off in them: the whole with b at a + off
splice-part : (s : List ℕ) (a k off : ℕ) (b : List ℕ) → a + k ≤ length s → off + length b ≤ k
    → take a s ++ (splice (take k (drop a s)) off b ++ drop k (drop a s)) ≡ splice s (a + off) b
unfolding splice
splice-part s a k off b fits within =
    let t : List ℕ = drop a s in
    let size : length t ≡ length s - a = length-drop a s in
    let front : take off (take k t) ≡ take off t = take-take off k t (omega arith) in
    let n : ℕ = off + length b in
    let low : n ≤ length (take k t) = rw (length-take-le k t (omega arith)) within in
    -- the bytes behind b in the part, and those behind the part, are the bytes behind b in the whole
    let behind : drop n (take k t) ++ drop k t ≡ drop n t =
    sym (drop-append-le n (take k t) (drop k t) low) ∙ ap (λ (l : List ℕ). drop n l) (take-append-drop k t) in
    let whole : take (a + off) s ≡ take a s ++ take off t = take-add a off s in
    let rest : drop (a + off + length b) s ≡ drop n t = ap (λ (j : ℕ). drop j s) sum ∙ sym (drop-drop n a s) in
    rw (front, whole, rest)
    (ap (λ (l : List ℕ). take a s ++ l) (append_assoc (take off t) (b ++ drop n (take k t)) (drop k t)
    ∙ ap (λ (l : List ℕ). take off t ++ l) (append_assoc b (drop n (take k t)) (drop k t)
    ∙ ap (λ (l : List ℕ). b ++ l) behind))
    ∙ sym (append_assoc (take a s) (take off t) (b ++ drop n t)))
  where
    sum : a + off + length b ≡ a + (off + length b)
    sum = omega arith

-- the k elements from a on, all of them new
pub splice_all : (s : List ℕ) (a k : ℕ) (b : List ℕ) → length b ≡ k
    → take a s ++ (b ++ drop k (drop a s)) ≡ splice s a b
unfolding splice
splice_all s a k b e = rw (drop-drop, e)

-- b put into the k elements from a on at off, where it fits there
pub put_part : (s : List ℕ) (a k off : ℕ) (b : List ℕ) → a + k ≤ length s
    → take a s ++ (bytes_put (take k (drop a s)) off b ++ drop k (drop a s))
    ≡ cond (leb (off + length b) k) (splice s (a + off) b) s
put_part s a k off b fits = rw long (go (leb (off + length b) k) refl)
  where
    long : length (take k (drop a s)) ≡ k
    long = length-take-le k (drop a s) (omega (arith, length-drop a s))

    go : (t : Bool) → leb (off + length b) k ≡ t
        → take a s ++ (cond t (splice (take k (drop a s)) off b) (take k (drop a s)) ++ drop k (drop a s))
        ≡ cond t (splice s (a + off) b) s
    go true e = splice-part s a k off b fits (leb-true (off + length b) k e)
    go false e = rw (take-append-drop k (drop a s)) (take-append-drop a s)
