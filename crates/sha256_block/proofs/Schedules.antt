-- Eight schedules side by side, word by word.
use Rattle.std.proofs.Common.{◌≡◌, ℕ, ◌+◌, ◌-◌, ◌*◌, ◌/◌, ◌%◌, ◌<◌, ◌≤◌, List, length, get_or, drop, set, sym, refl, ap, ◌∙◌, ap₂, arith, get_or-set_other, get_or-set_same, drop-drop}
use native.Mathlib.Decide.{dec_lt}
use Rattle.lemmas.specs.BigEndian.{number_at}
use Rattle.sha256_block.specs.declared.State.{State}
use Rattle.sha256_block.specs.Sha256.{◌⊞◌, σ₀, σ₁, next, schedule, round, rounds}
use Rattle.sha256_block.specs.Lanes.{lane_word, Lanes}
use Rattle.sha256_block.proofs.Compression.{length-schedule, schedule_first, schedule_next, rounds_step}

-- word t of lane l
lane_word_lem : (m : List ℕ) (t l : ℕ) → l < 8 → lane_word m (8 * t + l) ≡ get_or (schedule (drop (64 * l) m)) t 0
lane_word_lem m t l h =
    let e : (8 * t + l) % 8 ≡ l = omega arith in
    let f : (8 * t + l) / 8 ≡ t = omega arith in
    ap₂ (λ (i j : ℕ). get_or (schedule (drop (64 * i) m)) j 0) e f

pub lanes_none : (w m : List ℕ) → Lanes 0 w m
lanes_none w m q h = absurd (omega arith)

-- one word more
pub lanes_grow : (w m : List ℕ) (p x : ℕ) → p < length w → Lanes p w m → x ≡ lane_word m p
    → Lanes (p + 1) (set w p x) m
lanes_grow w m p x h known e q u =
    elim (dec_lt q p) [
      | yes l ↦ get_or-set_other w p q x 0 (λ s. omega arith) ∙ known q l
      | no l ↦
          let s : q ≡ p = omega arith in
          rw s (get_or-set_same w p x 0 h ∙ e)
    ]

-- a word of the blocks themselves
pub lanes_load : (s : List ℕ) (at t l : ℕ) → t < 16 → l < 8
    → number_at (drop (at + 64 * l + 4 * t) s) 0 4 ≡ lane_word (drop at s) (8 * t + l)
lanes_load s at t l h u =
    rw (
      lane_word_lem (drop at s) t l u,
      schedule_first (drop (64 * l) (drop at s)) t h,
      drop-drop (64 * l) at s,
      drop-drop (4 * t) (at + 64 * l) s,
    )

-- a word of the lane of p, i words before it
back : (w m : List ℕ) (p i : ℕ) → Lanes p w m → 1 ≤ i → 8 * i ≤ p
    → get_or w (p - 8 * i) 0 ≡ get_or (schedule (drop (64 * (p % 8)) m)) (p / 8 - i) 0
back w m p i known h u =
    let e : (p - 8 * i) % 8 ≡ p % 8 = omega arith in
    let f : (p - 8 * i) / 8 ≡ p / 8 - i = omega arith in
    known (p - 8 * i) (omega arith) ∙ ap₂ (λ (j k : ℕ). get_or (schedule (drop (64 * j) m)) k 0) e f

next_is : (w : List ℕ) (t : ℕ)
    → next w t ≡ σ₁ (get_or w (t - 2) 0) ⊞ get_or w (t - 7) 0 ⊞ σ₀ (get_or w (t - 15) 0) ⊞ get_or w (t - 16) 0
unfolding next
next_is w t = refl

-- the next word of a lane
pub lanes_next : (w m : List ℕ) (p : ℕ) → 128 ≤ p → p < 512 → Lanes p w m
    → σ₁ (get_or w (p - 16) 0) ⊞ get_or w (p - 56) 0 ⊞ σ₀ (get_or w (p - 120) 0) ⊞ get_or w (p - 128) 0 ≡ lane_word m p
lanes_next w m p h u known =
    rw (
      back w m p 2 known (omega arith) (omega arith),
      back w m p 7 known (omega arith) (omega arith),
      back w m p 15 known (omega arith) (omega arith),
      back w m p 16 known (omega arith) (omega arith),
      ← next_is (schedule (drop (64 * (p % 8)) m)) (p / 8),
    )
    (sym (schedule_next (drop (64 * (p % 8)) m) (p / 8) (omega arith) (omega arith)))

-- what the rounds from t on make of v, with the schedule of lane l
abbrev pub left_of : List ℕ → ℕ → List ℕ → ℕ → State → State
left_of k l m t v = rounds (drop t k) (drop t (schedule (drop (64 * l) m))) v

-- one round
pub lane_step : (k w m : List ℕ) (l t : ℕ) (v : State) → length k ≡ 64 → Lanes 512 w m → l < 8 → t < 64
    → left_of k l m (t + 1) (round (get_or k t 0) (get_or w (8 * t + l) 0) v) ≡ left_of k l m t v
lane_step k w m l t v hk known hl ht =
    let s : List ℕ = schedule (drop (64 * l) m) in
    let ls : length s ≡ 64 = length-schedule (drop (64 * l) m) in
    ap (λ (x : ℕ). left_of k l m (t + 1) (round (get_or k t 0) x v))
    (known (8 * t + l) (omega arith) ∙ lane_word_lem m t l hl)
    ∙ sym (rounds_step k s t v (omega arith) (omega arith))
