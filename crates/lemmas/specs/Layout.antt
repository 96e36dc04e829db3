-- Numbers read and written byte by byte, and bytes written into a list one after the other.
use Rattle.std.specs.Prelude.{◌≡◌, refl, List, [], ◌∷◌, ◌++◌, ℕ, suc, ◌+◌, ◌*◌, ◌/◌, ◌%◌, ◌^◌, ◌≤◌, ◌<◌, length, get_or, take, drop}
use Rattle.std.proofs.Common.{sym, ap, ◌∙◌, subst, append_assoc, pow-suc, add-zero, add-one, arith, length-append, take-append-drop, get_or-take, take-take, take_at, length-take-le, drop-drop}
use Rattle.std.proofs.lemmas.List.{get_or_at}
use Rattle.std.proofs.Math.Seq.{drop-append-add, paste, take-length}
use Rattle.lemmas.specs.Lists.{splice}
use Rattle.lemmas.specs.BigEndian.{number_at, big_endian, length-big_endian, big_endian_last}

-- ---- a number read byte by byte
pub number_none : (s : List ℕ) (i : ℕ) → number_at s i 0 ≡ 0
unfolding number_at
number_none s i = refl

pub number_next : (s : List ℕ) (i n : ℕ) → number_at s i (n + 1) ≡ number_at s i n * 256 + get_or s (i + n) 0
unfolding number_at
number_next s i n = rw add-one

-- one more byte: the bound of a number below 256 to the n
pub bound_next : {r x : ℕ} (n : ℕ) → r < 256 ^ n → x < 256 → r * 256 + x < 256 ^ (n + 1)
bound_next {r} {x} n hr hx = rw (add-one, pow-suc 256 n) (omega arith)

-- ---- a number written byte by byte, the last first: the last of j + 1 bytes, and those before it
pub last_byte : (b : List ℕ) (j x : ℕ) → take (suc j) b ≡ big_endian (suc j) x → get_or b j 0 ≡ x % 256
last_byte b j x e =
    sym (get_or-take (suc j) b j 0 (omega arith))
    ∙ ap (λ (l : List ℕ). get_or l j 0) (e ∙ big_endian_last j x)
    ∙ get_or_at (big_endian j (x / 256)) (x % 256) [] 0 j (length-big_endian j (x / 256))

pub first_bytes : (b : List ℕ) (j x : ℕ) → take (suc j) b ≡ big_endian (suc j) x → take j b ≡ big_endian j (x / 256)
first_bytes b j x e =
    sym (take-take j (suc j) b (omega arith))
    ∙ ap (λ (l : List ℕ). take j l) (e ∙ big_endian_last j x)
    ∙ take_at (big_endian j (x / 256)) (x % 256 ∷ []) j (length-big_endian j (x / 256))

-- ---- one splice after another
pub splice_none : (s : List ℕ) (i : ℕ) → splice s i [] ≡ s
unfolding splice
splice_none s i = rw (add-zero i) (take-append-drop i s)

-- writing behind what was written is writing both
pub splice_next : (s : List ℕ) (i : ℕ) (a b : List ℕ) → i + length a + length b ≤ length s
    → splice (splice s i a) (i + length a) b ≡ splice s i (a ++ b)
unfolding splice
splice_next s i a b fits =
    let p : List ℕ = take i s in
    let d : List ℕ = drop (i + length a) s in
    let size : length (p ++ a) ≡ i + length a =
    length-append p a ∙ ap (λ (k : ℕ). k + length a) (length-take-le i s (omega arith)) in
    let front : take (i + length a) (p ++ (a ++ d)) ≡ p ++ a =
    rw (← append_assoc p a d) (take_at (p ++ a) d (i + length a) size) in
    let all : i + length a + length b ≡ i + length (a ++ b) = omega (arith, length-append a b) in
    let back : drop (i + length a + length b) (p ++ (a ++ d)) ≡ drop (i + length (a ++ b)) s =
    rw (← append_assoc p a d)
    (ap (λ (k : ℕ). drop (k + length b) ((p ++ a) ++ d)) (sym size) ∙ drop-append-add (p ++ a) d (length b))
    ∙ drop-drop (length b) (i + length a) s
    ∙ ap (λ (k : ℕ). drop k s) all in
    rw (front, back)
    (append_assoc p a (b ++ drop (i + length (a ++ b)) s)
    ∙ ap (λ (l : List ℕ). p ++ l) (sym (append_assoc a b (drop (i + length (a ++ b)) s))))

-- the same where the second place is given as a number
pub splice_after_size : (s a b : List ℕ) (i k : ℕ) → i + length a ≡ k → k + length b ≤ length s
    → splice (splice s i a) k b ≡ splice s i (a ++ b)
splice_after_size s a b i k size fits =
    subst (λ (j : ℕ). splice (splice s i a) j b ≡ splice s i (a ++ b)) size (splice_next s i a b (omega arith))

-- a list pasted whole, element by element, is spliced
pub paste_all : (d : List ℕ) (i : ℕ) (s : List ℕ) → paste d i s (length s) ≡ splice d i s
unfolding splice
paste_all d i s =
    ap (λ (r : List ℕ). (take i d ++ r) ++ drop (i + length s) d) (take-length s)
    ∙ append_assoc (take i d) s (drop (i + length s) d)
