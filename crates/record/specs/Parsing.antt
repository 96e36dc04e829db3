-- What is known of an input record stays true when more arrives, so the calls of an input are known one after the other.
-- p: the bytes that have arrived; q: those that come later; most: the longest frame; space: the reply space's size.
use Rattle.std.specs.Prelude.{◌≡◌, refl, ◌⊎◌, Bool, true, false, ◌&&◌, List, [], ◌∷◌, ◌++◌, ℕ, zero, suc, ◌+◌, ◌-◌, ◌≤◌, ◌<◌, leb, length, drop}
use Rattle.std.proofs.Common.{sym, ap, ◌∙◌, inl, inr, arith, length-append, length-drop, drop-drop, le-ltb, le-leb, leb-true}
use Rattle.std.proofs.lemmas.Bool.{false≢true}
use Rattle.std.proofs.lemmas.List.{take-append-le, drop-append-le}
use Rattle.lemmas.specs.Tests.{◌isnt◌, and_l, and_r, bool_cases, both, or_cases, or_intro_r, neither}
use Rattle.lemmas.specs.Lists.{part}
use Rattle.lemmas.specs.BigEndian.{number_at, number_left}
use Rattle.rules.specs.Gate.{Call}
use Rattle.rules.specs.Program.{
  after_record,
  broken,
  call_in,
  calls_in,
  calls_of,
  clock_start,
  frame_length,
  left_in,
  left_of,
  length_start,
  other_mark,
  overlong,
  record_head,
  record_magic,
}
use Rattle.record.specs.Arrival.{malformed}
use Rattle.record.specs.ArrivalLaws.{head_short, malformed-broken, whole-facts}

-- ---- a whole one stays whole, and stays the same call
pub length-stays : (p q : List ℕ) → record_head ≤ length p → frame_length (p ++ q) ≡ frame_length p
length-stays p q h = number_left p q length_start 4 h

pub part_stays : (p q : List ℕ) (i n : ℕ) → i + n ≤ length p → part (p ++ q) i n ≡ part p i n
unfolding part
part_stays p q i n h =
    rw (drop-append-le i p q (omega arith)) (take-append-le n (drop i p) q (omega (arith, length-drop i p)))

pub call_stays : (most space : ℕ) (p q : List ℕ) → broken most p ≡ false → call_in space (p ++ q) ≡ call_in space p
call_stays most space p q e =
    let w = whole-facts most p e in
    rw (
      length-stays p q (omega (arith, w.fits)),
      part_stays p q record_head (frame_length p) w.fits,
      number_left p q clock_start 8 (omega (arith, w.fits)),
    )

-- a test of bytes that were there has the same answer
stays : (p q : List ℕ) (k : ℕ) (t : List ℕ → Bool) → (k ≤ length p → t (p ++ q) ≡ t p)
    → (leb k (length p) && t p) ≡ true → (leb k (length (p ++ q)) && t (p ++ q)) ≡ true
stays p q k t same e =
    let h : k ≤ length p = leb-true k (length p) (and_l (leb k (length p)) (t p) e) in
    both (le-leb k (length (p ++ q)) (omega (arith, length-append p q)))
    (same h ∙ and_r (leb k (length p)) (t p) e)

malformed_tests : (most : ℕ) (p q : List ℕ) → malformed most p ≡ true → malformed most (p ++ q) ≡ true
malformed_tests most p q h = go (or_cases (leb clock_start (length p) && other_mark p) (leb record_head (length p) && overlong most p) h)
  where
    go : ((leb clock_start (length p) && other_mark p) ≡ true) ⊎ ((leb record_head (length p) && overlong most p) ≡ true)
        → malformed most (p ++ q) ≡ true
    go (inl e) = rw (stays p q clock_start other_mark (λ h. rw (number_left p q 0 clock_start h)) e)
    go (inr e) =
        or_intro_r (leb clock_start (length (p ++ q)) && other_mark (p ++ q))
        (leb record_head (length (p ++ q)) && overlong most (p ++ q))
        (stays p q record_head (overlong most) (λ h. rw (length-stays p q h)) e)

pub malformed_some : (most : ℕ) (p : List ℕ) → malformed most p ≡ true → 0 < length p
malformed_some most [] h = absurd (false≢true h)
malformed_some most (x ∷ p) h = omega arith

-- what is none stays none
pub malformed-stays : (most : ℕ) (p q : List ℕ) → malformed most p ≡ true → broken most (p ++ q) ≡ true
malformed-stays most p q h = malformed-broken most (p ++ q) (malformed_tests most p q h)

pub whole-stays : (most : ℕ) (p q : List ℕ) → broken most p ≡ false → broken most (p ++ q) ≡ false
unfolding broken
whole-stays most p q e =
    let w = whole-facts most p e in
    let more : length p ≤ length (p ++ q) = omega (arith, length-append p q) in
    let size : frame_length (p ++ q) ≡ frame_length p = length-stays p q (omega (arith, w.fits)) in
    let mark : number_at (p ++ q) 0 2 ≡ record_magic = number_left p q 0 2 (omega (arith, w.fits)) ∙ w.mark in
    neither
    (neither
    (neither (le-ltb (length (p ++ q)) record_head (omega (arith, w.fits, more)))
    (ap (λ (m : ℕ). m isnt record_magic) mark))
    (le-ltb most (frame_length (p ++ q)) (omega (arith, w.short, size))))
    (le-ltb (length (p ++ q)) (record_head + frame_length (p ++ q)) (omega (arith, w.fits, size, more)))

-- ---- the calls of an input, one by one
-- of a record that is broken there is none, and all is left
pub calls_none : (most space k : ℕ) (p : List ℕ) → broken most p ≡ true
    → (calls_of most space k p ≡ []) × (left_of most k p ≡ p)
unfolding calls_of left_of
calls_none most space zero p e = (refl, refl)
calls_none most space (suc k) p e = rw (e, calls_of, left_of) (refl, refl)

-- of one that is not: its call, and then those of the bytes behind it
pub calls_first : (most space k : ℕ) (p : List ℕ) → broken most p ≡ false
    → (calls_of most space (suc k) p ≡ call_in space p ∷ calls_of most space k (after_record p))
    × (left_of most (suc k) p ≡ left_of most k (after_record p))
unfolding calls_of left_of
calls_first most space k p e = rw (e, calls_of, left_of) (refl, refl)

-- a limit on their number that is no less than the bytes is none
calls_enough : (most space j k : ℕ) (p : List ℕ) → length p ≤ j → length p ≤ k
    → (calls_of most space j p ≡ calls_of most space k p) × (left_of most j p ≡ left_of most k p)
calls_enough most space zero k p a b =
    let n = calls_none most space k p (head_short most p (omega (arith, a))) in
    let z = calls_none most space zero p (head_short most p (omega (arith, a))) in
    (z.0 ∙ sym n.0, z.1 ∙ sym n.1)
calls_enough most space (suc j) zero p a b =
    let n = calls_none most space (suc j) p (head_short most p (omega (arith, b))) in
    let z = calls_none most space zero p (head_short most p (omega (arith, b))) in
    (n.0 ∙ sym z.0, n.1 ∙ sym z.1)
calls_enough most space (suc j) (suc k) p a b =
    go (bool_cases (broken most p)) (λ g h. calls_enough most space j k (after_record p) g h)
  where
    go : (broken most p ≡ true) ⊎ (broken most p ≡ false)
        → (length (after_record p) ≤ j → length (after_record p) ≤ k
        → (calls_of most space j (after_record p) ≡ calls_of most space k (after_record p))
        × (left_of most j (after_record p) ≡ left_of most k (after_record p)))
        → (calls_of most space (suc j) p ≡ calls_of most space (suc k) p) × (left_of most (suc j) p ≡ left_of most (suc k) p)
    go (inl e) f =
        let m = calls_none most space (suc j) p e in
        let n = calls_none most space (suc k) p e in
        (m.0 ∙ sym n.0, m.1 ∙ sym n.1)
    go (inr e) f =
        let long = length-drop (record_head + frame_length p) p in
        let r = f (omega (arith, long, a)) (omega (arith, long, b)) in
        let m = calls_first most space j p e in
        let n = calls_first most space k p e in (
          m.0 ∙ ap (λ (l : List Call). call_in space p ∷ l) r.0 ∙ sym n.0,
          m.1 ∙ r.1 ∙ sym n.1,
        )

-- ---- all calls of an input, whatever comes later: the first k of those that have arrived, and then those of the rest
first_call : (most space : ℕ) (p q : List ℕ) → broken most p ≡ false
    → (calls_in most space (p ++ q) ≡ call_in space p ∷ calls_in most space (after_record p ++ q))
    × (left_in most (p ++ q) ≡ left_in most (after_record p ++ q))
unfolding calls_in left_in
first_call most space p q e =
    let w = whole-facts most p e in
    let whole : broken most (p ++ q) ≡ false = whole-stays most p q e in
    let size : frame_length (p ++ q) ≡ frame_length p = length-stays p q (omega (arith, w.fits)) in
    let rest : after_record (p ++ q) ≡ after_record p ++ q =
    ap (λ (n : ℕ). drop (record_head + n) (p ++ q)) size ∙ drop-append-le (record_head + frame_length p) p q w.fits in
    let all : ℕ = length (p ++ q) in
    let long : length (after_record p ++ q) ≤ all =
    omega (arith, length-append (after_record p) q, length-append p q, length-drop (record_head + frame_length p) p) in
    let m = calls_enough most space all (suc all) (p ++ q) (omega arith) (omega arith) in
    let f = calls_first most space all (p ++ q) whole in
    let n = calls_enough most space all (length (after_record p ++ q)) (after_record p ++ q) long (omega arith) in (
      m.0 ∙ f.0
          ∙ ap (λ (c : Call). c ∷ calls_of most space all (after_record (p ++ q))) (call_stays most space p q e)
          ∙ ap (λ (l : List ℕ). call_in space p ∷ calls_of most space all l) rest
          ∙ ap (λ (l : List Call). call_in space p ∷ l) n.0,
      m.1 ∙ f.1 ∙ ap (λ (l : List ℕ). left_of most all l) rest ∙ n.1,
    )

pub calls-split : (most space k : ℕ) (p q : List ℕ)
    → (calls_in most space (p ++ q) ≡ calls_of most space k p ++ calls_in most space (left_of most k p ++ q))
    × (left_in most (p ++ q) ≡ left_in most (left_of most k p ++ q))
unfolding calls_of left_of
calls-split most space zero p q = (refl, refl)
calls-split most space (suc k) p q =
    go (bool_cases (broken most p)) (calls-split most space k (after_record p) q)
  where
    go : (broken most p ≡ true) ⊎ (broken most p ≡ false)
        → (calls_in most space (after_record p ++ q)
        ≡ calls_of most space k (after_record p) ++ calls_in most space (left_of most k (after_record p) ++ q))
        × (left_in most (after_record p ++ q) ≡ left_in most (left_of most k (after_record p) ++ q))
        → (calls_in most space (p ++ q)
        ≡ calls_of most space (suc k) p ++ calls_in most space (left_of most (suc k) p ++ q))
        × (left_in most (p ++ q) ≡ left_in most (left_of most (suc k) p ++ q))
    go (inl e) f =
        let n = calls_none most space (suc k) p e in
        rw (n.0, n.1) (refl, refl)
    go (inr e) f =
        let n = calls_first most space k p e in
        let a = first_call most space p q e in
        rw (n.0, n.1) (a.0 ∙ ap (λ (l : List Call). call_in space p ∷ l) f.0, a.1 ∙ f.1)

-- where the input has ended in a broken record, or goes on with what is none: no call, and all of it is left
pub calls-ended : (most space : ℕ) (p : List ℕ) → broken most p ≡ true
    → (calls_in most space p ≡ []) × (left_in most p ≡ p)
unfolding calls_in left_in
calls-ended most space p e = calls_none most space (length p) p e

pub calls-malformed : (most space : ℕ) (p q : List ℕ) → malformed most p ≡ true
    → (calls_in most space (p ++ q) ≡ []) × (left_in most (p ++ q) ≡ p ++ q)
calls-malformed most space p q h = calls-ended most space (p ++ q) (malformed-stays most p q h)

-- the calls took their bytes: each at least one
pub calls-within : (most space k : ℕ) (p : List ℕ) → length (calls_of most space k p) + length (left_of most k p) ≤ length p
unfolding calls_of left_of
calls-within most space zero p = omega arith
calls-within most space (suc k) p = go (bool_cases (broken most p)) (calls-within most space k (after_record p))
  where
    go : (broken most p ≡ true) ⊎ (broken most p ≡ false)
        → length (calls_of most space k (after_record p)) + length (left_of most k (after_record p)) ≤ length (after_record p)
        → length (calls_of most space (suc k) p) + length (left_of most (suc k) p) ≤ length p
    go (inl e) f = let n = calls_none most space (suc k) p e in rw (n.0, n.1) (omega arith)
    go (inr e) f =
        let n = calls_first most space k p e in
        rw (n.0, n.1)
        (omega (arith, f, length-drop (record_head + frame_length p) p, (whole-facts most p e).fits))

-- there are no more of them than the limit
pub calls_most : (most space k : ℕ) (p : List ℕ) → length (calls_of most space k p) ≤ k
unfolding calls_of
calls_most most space zero p = omega arith
calls_most most space (suc k) p = go (bool_cases (broken most p)) (calls_most most space k (after_record p))
  where
    go : (broken most p ≡ true) ⊎ (broken most p ≡ false) → length (calls_of most space k (after_record p)) ≤ k
        → length (calls_of most space (suc k) p) ≤ suc k
    go (inl e) f = rw (calls_none most space (suc k) p e).0 (omega arith)
    go (inr e) f = rw (calls_first most space k p e).0 (omega (arith, f))

-- what is left are the last bytes
pub left_behind : (most k : ℕ) (p : List ℕ)
    → (length (left_of most k p) ≤ length p) × (left_of most k p ≡ drop (length p - length (left_of most k p)) p)
unfolding left_of
left_behind most zero p = let z : 0 ≡ length p - length p = omega arith in (omega arith, ap (λ (n : ℕ). drop n p) z)
left_behind most (suc k) p = go (bool_cases (broken most p)) (left_behind most k (after_record p))
  where
    go : (broken most p ≡ true) ⊎ (broken most p ≡ false)
        → (length (left_of most k (after_record p)) ≤ length (after_record p))
        × (left_of most k (after_record p)
        ≡ drop (length (after_record p) - length (left_of most k (after_record p))) (after_record p))
        → (length (left_of most (suc k) p) ≤ length p)
        × (left_of most (suc k) p ≡ drop (length p - length (left_of most (suc k) p)) p)
    go (inl e) f =
        let z : 0 ≡ length p - length p = omega arith in
        rw (calls_none most 0 (suc k) p e).1 (omega arith, ap (λ (n : ℕ). drop n p) z)
    go (inr e) f =
        let m : ℕ = record_head + frame_length p in
        let l : List ℕ = left_of most k (after_record p) in
        let fits = (whole-facts most p e).fits in
        let long = length-drop m p in
        let n : m + (length (after_record p) - length l) ≡ length p - length l = omega (arith, long, fits, f.0) in
        rw (calls_first most 0 k p e).1 (
          omega (arith, long, f.0),
          f.1 ∙ drop-drop (length (after_record p) - length l) m p ∙ ap (λ (i : ℕ). drop i p) n,
        )
