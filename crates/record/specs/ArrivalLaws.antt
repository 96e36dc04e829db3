-- Laws of input records that arrive: what makes one broken or whole, and what each answer says. s: the bytes from its
-- start on, as far as they have arrived. most: the longest frame.
use Rattle.std.specs.Prelude.{◌≡◌, refl, ◌⊎◌, Bool, true, false, not, ◌&&◌, ◌||◌, cond, List, ℕ, ◌+◌, ◌≤◌, ◌<◌, leb, eqb, length}
use Rattle.std.proofs.Common.{sym, ap, ◌∙◌, inl, inr, true≢false, arith, lt-ltb, le-ltb, le-leb, ltb-false, eqb-true}
use Rattle.std.proofs.Math.Decide.{dec_lt}
use Rattle.std.proofs.lemmas.Bool.{not-true, not-false}
use Rattle.lemmas.specs.Tests.{◌under◌, and_r, and_rest_false, or_l, or_r, or_cases, or_intro_l, or_intro_r, neither}
use Rattle.lemmas.specs.Lists.{part}
use Rattle.lemmas.specs.BigEndian.{number_at}
use Rattle.rules.specs.Program.{broken, clock_in, clock_start, frame_in, frame_length, other_mark, overlong, record_head, record_magic}
use Rattle.record.specs.declared.Arrived.TheVariants.{Whole, Malformed, Short}
use Rattle.record.specs.Arrival.{malformed, RecordFacts, facts_of, record_facts}

-- the first and the last test of a broken input record
abbrev no_head : List ℕ → Bool
no_head s = length s under record_head

abbrev no_frame : List ℕ → Bool
no_frame s = length s under record_head + frame_length s

-- ---- a test of a number that is looked at only where it is there
pub there : (b : Bool) (t : ℕ → Bool) (x : ℕ) → (b && t (cond (not b) 0 x)) ≡ (b && t x)
there true t x = refl
there false t x = refl

-- ---- what makes it broken
pub malformed-broken : (most : ℕ) (s : List ℕ) → malformed most s ≡ true → broken most s ≡ true
unfolding broken
malformed-broken most s h = go (or_cases (leb clock_start (length s) && other_mark s) (leb record_head (length s) && overlong most s) h)
  where
    go : ((leb clock_start (length s) && other_mark s) ≡ true) ⊎ ((leb record_head (length s) && overlong most s) ≡ true)
        → (no_head s || other_mark s || overlong most s || no_frame s) ≡ true
    go (inl e) = search (or_intro_l, or_intro_r, and_r (leb clock_start (length s)) (other_mark s) e)
    go (inr e) = search (or_intro_l, or_intro_r, and_r (leb record_head (length s)) (overlong most s) e)

pub head_short : (most : ℕ) (s : List ℕ) → length s < record_head → broken most s ≡ true
unfolding broken
head_short most s h = search (or_intro_l, or_intro_r, lt-ltb (length s) record_head h)

pub frame_short : (most : ℕ) (s : List ℕ) → length s < record_head + frame_length s → broken most s ≡ true
unfolding broken
frame_short most s h = search (or_intro_l, or_intro_r, lt-ltb (length s) (record_head + frame_length s) h)

-- and what makes it whole
pub not_malformed : (most : ℕ) (s : List ℕ) → malformed most s ≡ false → record_head ≤ length s
    → (other_mark s ≡ false) × (overlong most s ≡ false)
not_malformed most s w h = (
  and_rest_false (leb clock_start (length s)) (other_mark s) (le-leb clock_start (length s) (omega arith))
      (or_l (leb clock_start (length s) && other_mark s) (leb record_head (length s) && overlong most s) w),
  and_rest_false (leb record_head (length s)) (overlong most s) (le-leb record_head (length s) h)
      (or_r (leb clock_start (length s) && other_mark s) (leb record_head (length s) && overlong most s) w),
)

pub all_there : (most : ℕ) (s : List ℕ) → malformed most s ≡ false → record_head ≤ length s → record_head + frame_length s ≤ length s
    → broken most s ≡ false
unfolding broken
all_there most s w h k =
    let n = not_malformed most s w h in
    neither (neither (neither (le-ltb (length s) record_head h) n.0) n.1)
    (le-ltb (length s) (record_head + frame_length s) k)

-- ---- the facts of it
pub facts_when_broken : (most : ℕ) (s : List ℕ) (b : Bool) → broken most s ≡ true → malformed most s ≡ b
    → record_facts most s ≡ record { whole = false; malformed = b; clock = 0; size = 0 }
unfolding record_facts
facts_when_broken most s b e w = rw (e, w) refl

pub facts_when_whole : (most : ℕ) (s : List ℕ) → broken most s ≡ false → malformed most s ≡ false
    → record_facts most s ≡ record { whole = true; malformed = false; clock = clock_in s; size = frame_length s }
unfolding record_facts
facts_when_whole most s e w = rw (e, w) refl

-- ---- the facts of each answer
-- whole: its clock and its frame are document 01's, and the frame lies within the bytes that are there
pub record IsWhole (most : ℕ) (s : List ℕ) (clock size : ℕ) : Type 0 where
  pub whole : broken most s ≡ false
  pub mark : number_at s 0 2 ≡ record_magic
  pub reading : clock ≡ clock_in s
  pub counted : size ≡ frame_length s
  pub frame : part s record_head size ≡ frame_in s
  pub short : size ≤ most
  pub fits : record_head + size ≤ length s

pub whole-facts : (most : ℕ) (s : List ℕ) → broken most s ≡ false → IsWhole most s (clock_in s) (frame_length s)
unfolding broken
whole-facts most s e = record {
  whole = e;
  mark = eqb-true (number_at s 0 2) record_magic (not-false (eqb (number_at s 0 2) record_magic) (search (or_l, or_r, e)));
  reading = refl;
  counted = refl;
  frame = refl;
  short = ltb-false most (frame_length s) (search (or_l, or_r, e));
  fits = ltb-false (length s) (record_head + frame_length s) (search (or_l, or_r, e));
}

pub facts_of-whole : (most : ℕ) (s : List ℕ) (clock size : ℕ) → facts_of (Whole clock size) ≡ record_facts most s → IsWhole most s clock size
unfolding record_facts
facts_of-whole most s clock size e =
    let b : broken most s ≡ false = not-true (broken most s) (sym (ap RecordFacts.whole e)) in
    let ec : clock ≡ clock_in s = ap RecordFacts.clock e ∙ (rw b) in
    let es : size ≡ frame_length s = ap RecordFacts.size e ∙ (rw b) in
    rw (ec, es) (whole-facts most s b)

pub facts_of-malformed : (most : ℕ) (s : List ℕ) → facts_of Malformed ≡ record_facts most s → malformed most s ≡ true
unfolding record_facts
facts_of-malformed most s e = sym (ap RecordFacts.malformed e)

-- one of which more must be read is shorter than the longest
pub facts_of_short : (most : ℕ) (s : List ℕ) → facts_of Short ≡ record_facts most s
    → (broken most s ≡ true) × (malformed most s ≡ false) × (length s < record_head + most)
unfolding record_facts
facts_of_short most s e =
    let b : broken most s ≡ true = not-false (broken most s) (sym (ap RecordFacts.whole e)) in
    let w : malformed most s ≡ false = sym (ap RecordFacts.malformed e) in
    (b, w, go b w (dec_lt (length s) record_head) (dec_lt (length s) (record_head + frame_length s)))
  where
    go : broken most s ≡ true → malformed most s ≡ false → Dec (length s < record_head) → Dec (length s < record_head + frame_length s)
        → length s < record_head + most
    go b w (yes h) l = omega arith
    go b w (no h) (yes l) =
        let n = not_malformed most s w (omega arith) in
        omega (arith, l, ltb-false most (frame_length s) n.1)
    go b w (no h) (no l) = absurd (true≢false (sym b ∙ all_there most s w (omega arith) (omega arith)))
