-- One block: the words read, the schedule made word by word, the rounds taken one by one, and the blocks of a message.
use Rattle.std.proofs.Common.{◌≡◌, ℕ, zero, suc, ◌+◌, ◌-◌, ◌*◌, ◌/◌, ◌^◌, ◌<◌, ◌≤◌, List, [], ◌∷◌, ◌++◌, length, get_or, take, drop, set, sym, refl, ap, ◌∙◌, ap₂, add-zero, suc-add, zero-add, add-one, arith, length-append, length-drop, length-set, take-append-drop, length-take-le, get_or-drop, drop-cons, get_or-take, get_or-set_same, drop-drop, take-suc-set}
use native.Mathlib.Decide.{dec_lt}
use lib.ListN.{get_or-append}
use lib.Seq.{drop-append-le}
use lib.Seq.{get_or-append_seam}
use Rattle.lemmas.specs.BigEndian.{number_at, number_left}
use Rattle.sha256_block.specs.declared.State.{State}
use Rattle.sha256_block.specs.Sha256.{words, next, extend, schedule, round, rounds, added, compress, blocks, K}

-- ---- words

-- a word by its four bytes
pub word_at : (s : List ℕ) (at : ℕ)
    → get_or s at 0 * 2 ^ 24 + get_or s (at + 1) 0 * 2 ^ 16 + get_or s (at + 2) 0 * 2 ^ 8 + get_or s (at + 3) 0
    ≡ number_at (drop at s) 0 4
unfolding number_at
word_at s at = simp (get_or-drop, add-zero) (omega arith)

-- one word more
pub words_suc : (n : ℕ) (s : List ℕ) → words (suc n) s ≡ words n s ++ number_at (drop (4 * n) s) 0 4 ∷ []
unfolding words
words_suc zero s = refl
words_suc (suc n) s =
    let e : 4 + 4 * n ≡ 4 * suc n = omega arith in
    rw (words_suc n (drop 4 s), drop-drop (4 * n) 4 s, e)

length-words : (n : ℕ) (s : List ℕ) → length (words n s) ≡ n
unfolding words
length-words zero s = refl
length-words (suc n) s = rw (length-words n (drop 4 s))

get_d_words : (n : ℕ) (s : List ℕ) (i : ℕ) → i < n → get_or (words n s) i 0 ≡ number_at (drop (4 * i) s) 0 4
unfolding words
get_d_words zero s i h = absurd (omega arith)
get_d_words (suc n) s zero h = refl
get_d_words (suc n) s (suc i) h =
    let e : 4 + 4 * i ≡ 4 * suc i = omega arith in
    get_d_words n (drop 4 s) i (omega arith) ∙ rw (drop-drop (4 * i) 4 s, e)

-- words look no further than their bytes
words_append : (n : ℕ) (a b : List ℕ) → 4 * n ≤ length a → words n (a ++ b) ≡ words n a
unfolding words
words_append zero a b h = refl
words_append (suc n) a b h =
    let l : 4 ≤ length a = omega arith in
    rw (number_left a b 0 4 l, drop-append-le 4 a b l, words_append n (drop 4 a) b (simp length-drop (omega arith)))

pub words_take : (n k : ℕ) (s : List ℕ) → 4 * n ≤ k → k ≤ length s → words n (take k s) ≡ words n s
words_take n k s h l =
    sym (words_append n (take k s) (drop k s) (rw (length-take-le k s l) h)) ∙ ap (words n) (take-append-drop k s)

-- ---- the schedule

-- a word looks at those before it alone
next_same : (u w : List ℕ) (t : ℕ) → 16 ≤ t → ((i : ℕ) → i < t → get_or u i 0 ≡ get_or w i 0) → next u t ≡ next w t
unfolding next
next_same u w t h e =
    rw (e (t - 2) (omega arith), e (t - 7) (omega arith), e (t - 15) (omega arith), e (t - 16) (omega arith))

next_take : (w : List ℕ) (t : ℕ) → 16 ≤ t → t ≤ length w → next (take t w) (length (take t w)) ≡ next w t
next_take w t h l = rw (length-take-le t w l) (next_same (take t w) w t h (λ i k. get_or-take t w i 0 k))

-- the clause, as an equation to rewrite with
extend_suc : (n : ℕ) (w : List ℕ) → extend (suc n) w ≡ extend n (w ++ next w (length w) ∷ [])
unfolding extend
extend_suc n w = refl

-- a word written after the t that are there, of n in all
extend_step : (n t : ℕ) (w : List ℕ) → 16 ≤ t → t < n → t < length w
    → extend (n - t) (take t w) ≡ extend (n - (t + 1)) (take (t + 1) (set w t (next w t)))
extend_step n t w h hn hw =
    let e : n - t ≡ suc (n - (t + 1)) = omega arith in
    let l : t ≤ length w = omega arith in
    rw (e, extend_suc, add-one t, take-suc-set w t (next w t) hw, next_take w t h l)

length-extend : (n : ℕ) (w : List ℕ) → length (extend n w) ≡ length w + n
unfolding extend
length-extend zero w = rw add-zero
length-extend (suc n) w =
    length-extend n (w ++ next w (length w) ∷ []) ∙ simp length-append (omega arith)

-- the words that are there stay
get_or-extend : (n : ℕ) (w : List ℕ) (i : ℕ) → i < length w → get_or (extend n w) i 0 ≡ get_or w i 0
unfolding extend
get_or-extend zero w i h = refl
get_or-extend (suc n) w i h =
    get_or-extend n (w ++ next w (length w) ∷ []) i (simp length-append (omega arith))
    ∙ get_or-append w (next w (length w) ∷ []) 0 i h

-- each word that was added is the next of those before it
extend_next : (n : ℕ) (w : List ℕ) (t : ℕ) → 16 ≤ length w → length w ≤ t → t < length w + n
    → get_or (extend n w) t 0 ≡ next (extend n w) t
extend_next zero w t h l u = absurd (omega arith)
extend_next (suc n) w t h l u =
    let x : ℕ = next w (length w) in
    let v : List ℕ = w ++ x ∷ [] in
    let lv : length v ≡ length w + 1 = length-append w (x ∷ []) in
    elim (dec_lt (length w) t) [
      | yes g ↦ rw extend_suc (extend_next n v t (omega arith) (omega arith) (omega arith))
      | no g ↦
          let e : t ≡ length w = omega arith in
          let same : (i : ℕ) → i < length w → get_or (extend n v) i 0 ≡ get_or w i 0 =
          λ i k. get_or-extend n v i (omega arith) ∙ get_or-append w (x ∷ []) 0 i k in
          rw (extend_suc, e, get_or-extend n v (length w) (omega arith), get_or-append_seam w x [] 0)
          (sym (next_same (extend n v) w (length w) h same))
    ]

-- ---- the schedule of a block

pub length-schedule : (m : List ℕ) → length (schedule m) ≡ 64
unfolding schedule
length-schedule m = rw (length-extend 48 (words 16 m), length-words 16 m)

pub schedule_first : (m : List ℕ) (t : ℕ) → t < 16 → get_or (schedule m) t 0 ≡ number_at (drop (4 * t) m) 0 4
unfolding schedule
schedule_first m t h =
    let l : length (words 16 m) ≡ 16 = length-words 16 m in
    get_or-extend 48 (words 16 m) t (omega arith) ∙ get_d_words 16 m t h

pub schedule_next : (m : List ℕ) (t : ℕ) → 16 ≤ t → t < 64 → get_or (schedule m) t 0 ≡ next (schedule m) t
unfolding schedule
schedule_next m t h l =
    let e : length (words 16 m) ≡ 16 = length-words 16 m in
    extend_next 48 (words 16 m) t (omega arith) (omega arith) (omega arith)

-- ---- rounds

-- a round taken off the front
pub rounds_step : (ks ws : List ℕ) (t : ℕ) (v : State) → t < length ks → t < length ws
    → rounds (drop t ks) (drop t ws) v
    ≡ rounds (drop (t + 1) ks) (drop (t + 1) ws) (round (get_or ks t 0) (get_or ws t 0) v)
unfolding rounds
rounds_step ks ws t v hk hw = rw (add-one, drop-cons ks t 0, drop-cons ws t 0)

-- what the rounds from t on make of v: with the schedule of w's first sixteen words, and with that of its first t
abbrev pub left_of16 : List ℕ → ℕ → List ℕ → State → State
left_of16 k t w v = rounds (drop t k) (drop t (extend 48 (take 16 w))) v

abbrev pub left : List ℕ → ℕ → List ℕ → State → State
left k t w v = rounds (drop t k) (drop t (extend (64 - t) (take t w))) v

-- one of the first sixteen rounds
pub first_step : (k w : List ℕ) (t : ℕ) (v : State) → t < 16 → length k ≡ 64 → length w ≡ 64
    → left_of16 k (t + 1) w (round (get_or k t 0) (get_or w t 0) v) ≡ left_of16 k t w v
first_step k w t v h hk hw =
    let p : List ℕ = take 16 w in
    let lp : length p ≡ 16 = length-take-le 16 w (omega arith) in
    let le : length (extend 48 p) ≡ length p + 48 = length-extend 48 p in
    let x : get_or (extend 48 p) t 0 ≡ get_or w t 0 = get_or-extend 48 p t (omega arith) ∙ get_or-take 16 w t 0 h in
    rw (← x, ← rounds_step k (extend 48 p) t v (omega arith) (omega arith))

-- one of the others, its word made first
pub later_step : (k w : List ℕ) (t : ℕ) (v : State) → 16 ≤ t → t < 64 → length k ≡ 64 → length w ≡ 64
    → left k (t + 1) (set w t (next w t)) (round (get_or k t 0) (next w t) v) ≡ left k t w v
later_step k w t v h l hk hw =
    let w' : List ℕ = set w t (next w t) in
    let p : List ℕ = take (t + 1) w' in
    let e : List ℕ = extend (64 - (t + 1)) p in
    let lw : length w' ≡ 64 = length-set w t (next w t) ∙ hw in
    let lp : length p ≡ t + 1 = length-take-le (t + 1) w' (omega arith) in
    let le : length e ≡ length p + (64 - (t + 1)) = length-extend (64 - (t + 1)) p in
    let x : get_or e t 0 ≡ next w t =
    get_or-extend (64 - (t + 1)) p t (omega arith)
    ∙ get_or-take (t + 1) w' t 0 (omega arith)
    ∙ get_or-set_same w t (next w t) 0 (omega arith) in
    ap (λ z. rounds (drop (t + 1) k) (drop (t + 1) e) (round (get_or k t 0) z v)) (sym x)
    ∙ sym (rounds_step k e t v (omega arith) (omega arith))
    ∙ ap (λ z. rounds (drop t k) (drop t z) v) (sym (extend_step 64 t w h l (omega arith)))

-- ---- blocks

-- the schedule looks no further than the block
pub compress_is : (v : State) (m : List ℕ) → 64 ≤ length m
    → added v (rounds K (schedule m) v) ≡ compress v (take 64 m)
unfolding compress schedule
compress_is v m h =
    ap (λ (w : List ℕ). added v (rounds K (extend 48 w) v)) (sym (words_take 16 64 m (omega arith) h))

-- the clause, as an equation to rewrite with
pub blocks_suc : (n : ℕ) (v : State) (m : List ℕ) → blocks (suc n) v m ≡ blocks n (compress v (take 64 m)) (drop 64 m)
unfolding blocks
blocks_suc n v m = refl

-- q blocks and then k
pub blocks-add : (q k : ℕ) (s : State) (m : List ℕ) → blocks (q + k) s m ≡ blocks k (blocks q s m) (drop (q * 64) m)
unfolding blocks
blocks-add zero k s m = rw zero-add
blocks-add (suc q) k s m =
    let e : 64 + q * 64 ≡ suc q * 64 = omega arith in
    rw (
      suc-add,
      blocks_suc (q + k) s m,
      blocks_suc q s m,
      blocks-add q k (compress s (take 64 m)) (drop 64 m),
      drop-drop (q * 64) 64 m,
      e,
    )

-- i blocks from `from` on are worked in, and then k more from `at` on, of j in all
pub blocks_then : (k i j from at : ℕ) (v : State) (m : List ℕ) → at ≡ from + 64 * i → j ≡ i + k
    → blocks k (blocks i v (drop from m)) (drop at m) ≡ blocks j v (drop from m)
blocks_then k i j from at v m h e =
    let f : from + i * 64 ≡ at = omega arith in
    ap (blocks k (blocks i v (drop from m))) (ap (λ (n : ℕ). drop n m) (sym f) ∙ sym (drop-drop (i * 64) from m))
    ∙ sym (blocks-add i k v (drop from m))
    ∙ ap (λ (n : ℕ). blocks n v (drop from m)) (sym e)

-- as many eights as there are, and then the others
pub blocks_after_eights : (from : ℕ) (v : State) (m : List ℕ) → from ≤ length m
    → blocks ((length m - (from + (length m - from) / 512 * 512)) / 64)
    (blocks ((length m - from) / 512 * 8) v (drop from m)) (drop (from + (length m - from) / 512 * 512) m)
    ≡ blocks ((length m - from) / 64) v (drop from m)
blocks_after_eights from v m h =
    let n : ℕ = length m - from in
    let at : ℕ = from + n / 512 * 512 in
    blocks_then ((length m - at) / 64) (n / 512 * 8) (n / 64) from at v m (omega arith) (omega arith)

-- block l of m, after those before it
pub block_next : (l : ℕ) (v u : State) (m : List ℕ) → 64 * l + 64 ≤ length m → u ≡ blocks l v m
    → added u (rounds K (schedule (drop (64 * l) m)) u) ≡ blocks (l + 1) v m
unfolding blocks
block_next l v u m h e =
    let c : 64 * l ≡ l * 64 = omega arith in
    compress_is u (drop (64 * l) m) (simp length-drop (omega arith))
    ∙ ap₂ (λ (s : State) (i : ℕ). compress s (take 64 (drop i m))) e c
    ∙ sym (blocks-add l 1 v m)
