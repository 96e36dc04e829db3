-- Unsigned numbers in bytes, big-endian: the most significant byte first. One definition for every width.
use Rattle.std.specs.Prelude.{◌≡◌, refl, List, [], ◌∷◌, ◌++◌, ℕ, zero, suc, ◌+◌, ◌*◌, ◌/◌, ◌%◌, ◌^◌, ◌≤◌, ◌<◌, length, get_or}
use Rattle.std.proofs.Common.{sym, ap, subst, ◌∙◌, append_assoc, pow-suc, add_assoc, arith, length-append, get_or-append-add}
use Rattle.std.proofs.Math.Nat.{pow-succ', div-div-eq-div-mul}
use Rattle.std.proofs.Math.ListN.{get_or-append}
use Rattle.std.proofs.lemmas.List.{get_or_at}

-- the number that the n bytes of s from place i on spell; a byte past the end counts as 0
unfoldable pub number_at : List ℕ → ℕ → ℕ → ℕ
number_at s i zero = 0
number_at s i (suc n) = number_at s i n * 256 + get_or s (i + n) 0

-- the digit of x that counts 256 to the k
unfoldable pub digit : ℕ → ℕ → ℕ
digit zero x = x % 256
digit (suc k) x = x / 256 ^ suc k % 256

-- x in n bytes
unfoldable pub big_endian : ℕ → ℕ → List ℕ
big_endian zero x = []
big_endian (suc n) x = digit n x ∷ big_endian n x

-- ---- a record's layout is the list of its fields' widths
-- how many bytes it has
unfoldable pub layout_size : List ℕ → ℕ
layout_size [] = 0
layout_size (w ∷ ws) = w + layout_size ws

-- the numbers of the fields one after the other from place i on
unfoldable pub read_all : List ℕ → ℕ → List ℕ → List ℕ
read_all s i [] = []
read_all s i (w ∷ ws) = number_at s i w ∷ read_all s (i + w) ws

-- the bytes of a record with the numbers vs, 0 where there are too few
unfoldable pub encode : List ℕ → List ℕ → List ℕ
encode [] vs = []
encode (w ∷ ws) [] = big_endian w 0 ++ encode ws []
encode (w ∷ ws) (v ∷ vs) = big_endian w v ++ encode ws vs

-- each number fits its field
unfoldable pub AllFit : List ℕ → List ℕ → Type 0
AllFit [] [] = Unit {0}
AllFit [] (v ∷ vs) = ⊥
AllFit (w ∷ ws) [] = ⊥
AllFit (w ∷ ws) (v ∷ vs) = (v < 256 ^ w) × AllFit ws vs

-- ---- laws
pub length-big_endian : (n x : ℕ) → length (big_endian n x) ≡ n
unfolding big_endian
length-big_endian zero x = refl
length-big_endian (suc n) x = ap suc (length-big_endian n x)

pub length-encode : (ws vs : List ℕ) → length (encode ws vs) ≡ layout_size ws
unfolding encode layout_size
length-encode [] vs = refl
length-encode (w ∷ ws) [] = length-append (big_endian w 0) (encode ws [])
    ∙ rw (length-big_endian w 0, length-encode ws [])
length-encode (w ∷ ws) (v ∷ vs) = length-append (big_endian w v) (encode ws vs)
    ∙ rw (length-big_endian w v, length-encode ws vs)

-- a digit of x is one of x without its last
digit-div : (k x : ℕ) → digit (suc k) x ≡ digit k (x / 256)
unfolding digit
digit-div zero x = refl
digit-div (suc k) x = ap (λ (y : ℕ). y % 256) (ap (λ (p : ℕ). x / p) (pow-succ' 256 (suc k))
    ∙ sym (div-div-eq-div-mul x 256 (256 ^ suc k)))

-- the last digit apart: x without it in n bytes, and then it
pub big_endian_last : (n x : ℕ) → big_endian (suc n) x ≡ big_endian n (x / 256) ++ (x % 256 ∷ [])
unfolding big_endian digit
big_endian_last zero x = refl
big_endian_last (suc n) x = λ i. digit-div n x i ∷ big_endian_last n x i

below_div : (x n : ℕ) → x < 256 ^ suc n → x / 256 < 256 ^ n
below_div x n h = let e : x < 256 ^ n * 256 = rw (pow-suc 256 n) at h in omega arith

-- what is written is read back, at any width, whatever is before and after it
pub number_of-bytes : (n x : ℕ) (p q : List ℕ) → x < 256 ^ n → number_at (p ++ (big_endian n x ++ q)) (length p) n ≡ x
unfolding number_at
number_of-bytes zero x p q h = omega arith
number_of-bytes (suc n) x p q h =
    let b : List ℕ = big_endian n (x / 256) in
    let r : ℕ = x % 256 in
    let l : List ℕ = p ++ (b ++ (r ∷ q)) in
    let hi : number_at l (length p) n ≡ x / 256 = number_of-bytes n (x / 256) p (r ∷ q) (below_div x n h) in
    let lo : get_or l (length p + n) 0 ≡ r =
    get_or-append-add p (b ++ (r ∷ q)) n 0 ∙ get_or_at b r q 0 n (length-big_endian n (x / 256)) in
    let sum : number_at l (length p) n * 256 + get_or l (length p + n) 0 ≡ x = omega arith in
    let whole : big_endian (suc n) x ++ q ≡ b ++ (r ∷ q) = rw (big_endian_last n x) (append_assoc b (r ∷ []) q) in
    subst (λ (z : List ℕ). number_at (p ++ z) (length p) (suc n) ≡ x) (sym whole) sum

-- and so is every field of every layout
pub read-encode : (ws vs p q : List ℕ) → AllFit ws vs → read_all (p ++ (encode ws vs ++ q)) (length p) ws ≡ vs
unfolding read_all encode AllFit
read-encode [] [] p q fit = refl
read-encode [] (v ∷ vs) p q fit = absurd fit
read-encode (w ∷ ws) [] p q fit = absurd fit
read-encode (w ∷ ws) (v ∷ vs) p q fit =
    let b : List ℕ = big_endian w v in
    let e : List ℕ = encode ws vs in
    let head : number_at (p ++ (b ++ (e ++ q))) (length p) w ≡ v = number_of-bytes w v p (e ++ q) fit.0 in
    let size : length (p ++ b) ≡ length p + w = length-append p b
    ∙ ap (λ (k : ℕ). length p + k) (length-big_endian w v) in
    let rest : read_all ((p ++ b) ++ (e ++ q)) (length (p ++ b)) ws ≡ vs = read-encode ws vs (p ++ b) q fit.1 in
    let there : read_all (p ++ (b ++ (e ++ q))) (length p + w) ws ≡ vs =
    rw (append_assoc p b (e ++ q), size) at rest in
    let whole : encode (w ∷ ws) (v ∷ vs) ++ q ≡ b ++ (e ++ q) = append_assoc b e q in
    subst (λ (z : List ℕ). read_all (p ++ z) (length p) (w ∷ ws) ≡ v ∷ vs) (sym whole) (λ i. head i ∷ there i)

-- ---- a number is below 256 to its width
pub number_bound : (s : List ℕ) (i n : ℕ) → ((k : ℕ) → get_or s k 0 < 256) → number_at s i n < 256 ^ n
unfolding number_at
number_bound s i zero bytes = omega arith
number_bound s i (suc n) bytes =
    rw (pow-suc 256 n) (omega (arith, number_bound s i n bytes, bytes (i + n)))

pub power_positive : (n : ℕ) → 0 < 256 ^ n
power_positive n = omega (arith, number_bound [] 0 n (λ k. omega arith))

-- so what is read from bytes fits its fields
pub read_fits : (s : List ℕ) (i : ℕ) (ws : List ℕ) → ((k : ℕ) → get_or s k 0 < 256) → AllFit ws (read_all s i ws)
unfolding read_all AllFit
read_fits s i [] bytes = tt
read_fits s i (w ∷ ws) bytes = (number_bound s i w bytes, read_fits s (i + w) ws bytes)

-- the number of field k
pub fits_at : (ws vs : List ℕ) → AllFit ws vs → (k : ℕ) → get_or vs k 0 < 256 ^ get_or ws k 0
unfolding AllFit
fits_at [] [] fit k = omega arith
fits_at [] (v ∷ vs) fit k = absurd fit
fits_at (w ∷ ws) [] fit k = absurd fit
fits_at (w ∷ ws) (v ∷ vs) fit zero = fit.0
fits_at (w ∷ ws) (v ∷ vs) fit (suc k) = fits_at ws vs fit.1 k

-- ---- a number looks at its own bytes only
pub number_left : (p q : List ℕ) (i n : ℕ) → i + n ≤ length p → number_at (p ++ q) i n ≡ number_at p i n
unfolding number_at
number_left p q i zero h = refl
number_left p q i (suc n) h = rw (number_left p q i n (omega arith), get_or-append p q 0 (i + n) (omega arith))
    refl

pub number_right : (p q : List ℕ) (k i n : ℕ) → length p ≡ k → number_at (p ++ q) (k + i) n ≡ number_at q i n
unfolding number_at
number_right p q k i zero h = refl
number_right p q k i (suc n) h =
    let e : k + i + n ≡ length p + (i + n) = omega arith in
    rw (number_right p q k i n h, e, get_or-append-add p q (i + n) 0) refl

-- and so does every field of every layout
pub read_left : (p q : List ℕ) (i : ℕ) (ws : List ℕ) → i + layout_size ws ≤ length p
    → read_all (p ++ q) i ws ≡ read_all p i ws
unfolding read_all layout_size
read_left p q i [] h = refl
read_left p q i (w ∷ ws) h = rw (number_left p q i w (omega arith), read_left p q (i + w) ws (omega arith))

pub read_right : (p q : List ℕ) (k i : ℕ) (ws : List ℕ) → length p ≡ k → read_all (p ++ q) (k + i) ws ≡ read_all q i ws
unfolding read_all
read_right p q k i [] h = refl
read_right p q k i (w ∷ ws) h =
    rw (number_right p q k i w h, add_assoc k i w, read_right p q k (i + w) ws h)
