-- Objects sound by the ends of their extents, place by place; of narrow ones that is the rules' `sound_object`.
use Rattle.std.proofs.Common.{◌≡◌, ℕ, zero, suc, ◌+◌, ◌%◌, ◌^◌, ◌<◌, ◌≤◌, Bool, true, ◌&&◌, leb, List, map, length, get_or, take, sym, refl, ap, ◌∙◌, add-one, arith, ltb-true, le-ltb, lt-ltb, le-leb}
use mathlib.Core.Bool.{and-false, and_assoc}
use native.Mathlib.Decide.{dec_lt}
use lib.ListN.{get_or-map}
use borrow.Author.Tests.{lt-leb}
use Rattle.lemmas.specs.Tests.{◌under◌}
use Rattle.lemmas.specs.Lists.{every}
use Rattle.lemmas.specs.ListLaws.{every_nth}
use Rattle.lemmas.specs.Loops.{every_take}
use Rattle.rules.specs.declared.Object.{Object}
use Rattle.rules.specs.Drive.{sound_object}
use Rattle.rules.specs.Operations.{no_object}
use Rattle.soundness.specs.Spans.{end_of, narrow, sound_span, sound_at, each}

-- a test of places that is one of a list's elements
pub each-every : {A : Type 0} (t : ℕ → Bool) (p : A → Bool) (l : List A) (d : A) → ((i : ℕ) → t i ≡ p (get_or l i d))
    → (k : ℕ) → k ≤ length l → each t k ≡ every p (take k l)
unfolding each every
each-every t p l d same zero g = refl
each-every t p l d same (suc k) g =
    let more : every p (take (suc k) l) ≡ every p (take k l) && p (get_or l k d) =
    ap (λ (j : ℕ). every p (take j l)) (sym (add-one k)) ∙ every_take p l k d (omega arith) in
    rw (each-every t p l d same k (omega arith), same k) (sym more)

module _ (q last : ℕ) (small : q < 2 ^ 32) where
  -- an extent that is not empty and ends inside the quarter, by either sum
  inside : (s z : ℕ) → z < 2 ^ 32 → (s under ((s + z) % 2 ^ 32) && leb ((s + z) % 2 ^ 32) q) ≡ (leb 1 z && leb (s + z) q)
  inside s z h = elim (dec_lt (s + z) (2 ^ 32)) [
    | yes m ↦ let e : (s + z) % 2 ^ 32 ≡ s + z = omega arith in rw e (ap (λ (b : Bool). b && leb (s + z) q) (some s z))
    | no m ↦
        let over : (s + z) % 2 ^ 32 ≤ s = omega arith in
        rw (le-ltb s ((s + z) % 2 ^ 32) over, lt-leb (s + z) q (omega arith)) (sym (and-false (leb 1 z)))
  ]
    where
      some : (s z : ℕ) → (s under (s + z)) ≡ leb 1 z
      some s zero = le-ltb s (s + 0) (omega arith) ∙ sym (lt-leb 1 0 (omega arith))
      some s (suc z) = lt-ltb s (s + suc z) (omega arith) ∙ sym (le-leb 1 (suc z) (omega arith))

  sound_one : (o : Object) → narrow o ≡ true
      → sound_span q last o.number o.start (end_of o) o.version ≡ sound_object q last o
  unfolding sound_object
  sound_one o w =
      let n = leb 1 o.number in
      ap (λ (b : Bool). b && leb o.version last)
      (and_assoc n (o.start under end_of o) (leb (end_of o) q)
      ∙ ap (λ (b : Bool). n && b) (inside o.start o.size (ltb-true o.size (2 ^ 32) w))
      ∙ sym (and_assoc n (leb 1 o.size) (leb (o.start + o.size) q)))

  module _ (l : List Object) (w : every narrow l ≡ true) where
    test : ℕ → Bool
    test = sound_at q last (map Object.number l) (map Object.start l) (map end_of l) (map Object.version l)

    sound_at_lem : (i : ℕ) → test i ≡ sound_object q last (get_or l i no_object)
    unfolding test
    sound_at_lem i =
        rw (
          get_or-map Object.number l i no_object,
          get_or-map Object.start l i no_object,
          get_or-map end_of l i no_object,
          get_or-map Object.version l i no_object,
        ) (sound_one (get_or l i no_object) (every_nth narrow l i no_object refl w))

    -- what the loop over the first n finds
    pub sound-each : (numbers starts ends versions : List ℕ) (n : ℕ) → n ≤ length l
        → numbers ≡ map Object.number l → starts ≡ map Object.start l → ends ≡ map end_of l → versions ≡ map Object.version l
        → each (sound_at q last numbers starts ends versions) n ≡ every (sound_object q last) (take n l)
    unfolding test
    sound-each numbers starts ends versions n h e f g k = rw (e, f, g, k) (each-every test (sound_object q last) l no_object sound_at_lem n h)
