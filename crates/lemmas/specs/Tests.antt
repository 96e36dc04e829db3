-- Tests on numbers, worded as rules word them, and what a test that passed or failed tells; the first number that passes one.
use Rattle.std.specs.Prelude.{◌≡◌, refl, ◌⊎◌, Bool, true, false, not, ◌&&◌, ◌||◌, cond, List, [], ◌∷◌, ℕ, zero, suc, ◌+◌, ◌≤◌, ◌<◌, ltb, eqb, get_or}
use Rattle.std.proofs.Common.{sym, ap, ◌∙◌, inl, inr, true≢false, arith, ltb-true, ltb-false, leb-true, leb-false, eqb-true}
use Rattle.std.proofs.lemmas.Bool.{false≢true, eqb-false}
use Rattle.std.proofs.Math.Decide.{dec_lt}
use Rattle.std.proofs.Math.Arith.{lt_of_le-ne}

infix 40 ◌over◌ ◌under◌ ◌is◌ ◌isnt◌
abbrev pub ◌over◌ : ℕ → ℕ → Bool
a over b = ltb b a

abbrev pub ◌under◌ : ℕ → ℕ → Bool
a under b = ltb a b

abbrev pub ◌is◌ : ℕ → ℕ → Bool
a is b = eqb a b

abbrev pub ◌isnt◌ : ℕ → ℕ → Bool
a isnt b = not (eqb a b)

-- arithmetic with what tests tell: `omega tests`
pub ruleset tests = (arith, ltb-true, ltb-false, leb-true, leb-false, eqb-true, eqb-false)

-- ---- and, or
pub and_l : (a b : Bool) → (a && b) ≡ true → a ≡ true
and_l true b e = refl
and_l false b e = e

pub and_r : (a b : Bool) → (a && b) ≡ true → b ≡ true
and_r true b e = e
and_r false b e = absurd (false≢true e)

pub both : {a b : Bool} → a ≡ true → b ≡ true → (a && b) ≡ true
both {a} {b} e f = rw e f

pub neither : {a b : Bool} → a ≡ false → b ≡ false → (a || b) ≡ false
neither {a} {b} e f = rw e f

-- a test that fails, the first part of it passing
pub and_rest_false : (a b : Bool) → a ≡ true → (a && b) ≡ false → b ≡ false
and_rest_false true b e h = h
and_rest_false false b e h = absurd (false≢true e)

pub or_l : (a b : Bool) → (a || b) ≡ false → a ≡ false
or_l true b e = e
or_l false b e = refl

pub or_r : (a b : Bool) → (a || b) ≡ false → b ≡ false
or_r true b e = absurd (true≢false e)
or_r false b e = e

pub or_cases : (a b : Bool) → (a || b) ≡ true → (a ≡ true) ⊎ (b ≡ true)
or_cases true b e = inl refl
or_cases false b e = inr e

pub or_only : (a : Bool) → (a || false) ≡ true → a ≡ true
or_only true e = refl
or_only false e = e

pub or_intro_l : (a b : Bool) → a ≡ true → (a || b) ≡ true
or_intro_l a b e = rw e refl

pub or_intro_r : (a b : Bool) → b ≡ true → (a || b) ≡ true
or_intro_r true b e = refl
or_intro_r false b e = e

pub bool_cases : (b : Bool) → (b ≡ true) ⊎ (b ≡ false)
bool_cases true = inl refl
bool_cases false = inr refl

-- what both branches have, the one that is taken has
pub by_branches : {A : Type 0} (P : A → Type 0) (b : Bool) {x y : A} → P x → P y → P (cond b x y)
by_branches P true p q = p
by_branches P false p q = q

-- ---- a list of tests: any of them passes. It computes to t || u || ..
abbrev pub any_from : Bool → List Bool → Bool
any_from t [] = t
any_from t (u ∷ us) = any_from (t || u) us

abbrev pub any : List Bool → Bool
any [] = false
any (t ∷ ts) = any_from t ts

none_from : (t : Bool) (us : List Bool) → any_from t us ≡ false → (t ≡ false) × ((k : ℕ) → get_or us k false ≡ false)
none_from t [] h = (h, λ k. refl)
none_from t (u ∷ us) h =
    let r = none_from (t || u) us h in
    (or_l t u r.0, λ k. at k (or_r t u r.0) r.1)
  where
    at : (k : ℕ) → u ≡ false → ((k : ℕ) → get_or us k false ≡ false) → get_or (u ∷ us) k false ≡ false
    at zero e f = e
    at (suc k) e f = f k

-- none passes: test k does not
pub none_of : (ts : List Bool) → any ts ≡ false → (k : ℕ) → get_or ts k false ≡ false
none_of [] h k = refl
none_of (t ∷ ts) h k = at k (none_from t ts h).0 (none_from t ts h).1
  where
    at : (k : ℕ) → t ≡ false → ((k : ℕ) → get_or ts k false ≡ false) → get_or (t ∷ ts) k false ≡ false
    at zero e f = e
    at (suc k) e f = f k

-- ---- the first number that passes a test

-- of the n numbers from i on; or the number behind them, if none passes
unfoldable pub first_from : ℕ → ℕ → (ℕ → Bool) → ℕ
first_from i zero t = i
first_from i (suc n) t = cond (t i) i (first_from (suc i) n t)

-- it passes, and is not behind any number of them that does
pub first_passes : (i n : ℕ) (t : ℕ → Bool) (k : ℕ) → i ≤ k → k < i + n → t k ≡ true
    → (t (first_from i n t) ≡ true) × (first_from i n t ≤ k)
unfolding first_from
first_passes i zero t k h l e = absurd (omega arith)
first_passes i (suc n) t k h l e =
    elim (bool_cases (t i)) [
      | inl y ↦ rw y (y, h)
      | inr y ↦
          let d : k ≡ i → ⊥ = λ q. false≢true (sym y ∙ ap t (sym q) ∙ e) in
          rw y (first_passes (suc i) n t k (lt_of_le-ne h (λ q. d (sym q))) (omega arith) e)
    ]

-- none before it passes
pub none_before : (i n : ℕ) (t : ℕ → Bool) (j : ℕ) → i ≤ j → j < first_from i n t → t j ≡ false
unfolding first_from
none_before i zero t j h l = absurd (omega arith)
none_before i (suc n) t j h l =
    elim (bool_cases (t i)) [
      | inl y ↦ let m : j < i = rw y at l in absurd (omega arith)
      | inr y ↦
          let m : j < first_from (suc i) n t = rw y at l in
          elim (dec_lt i j) [
            | yes q ↦ none_before (suc i) n t j q m
            | no q ↦ let same : j ≡ i = omega arith in ap t same ∙ y
          ]
    ]
