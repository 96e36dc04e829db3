-- Objects that do not clash, place by place and two by two; of sound ones that is the rules' `apart`.
use Rattle.std.proofs.Common.{◌≡◌, ℕ, zero, suc, ◌+◌, ◌^◌, ◌<◌, ◌≤◌, Bool, true, false, not, ◌&&◌, ◌||◌, ltb, leb, List, [], ◌∷◌, map, length, get_or, take, sym, refl, ap, ◌∙◌, add-one, arith, ltb-false, ltb-true, le-leb, leb-true}
use lib.ListN.{get_or-map}
use borrow.Author.Tests.{lt-leb}
use Rattle.lemmas.specs.Tests.{◌under◌, ◌is◌, ◌isnt◌, and_l, and_r}
use Rattle.lemmas.specs.Lists.{every, pairs}
use Rattle.lemmas.specs.Loops.{pairs-take}
use Rattle.rules.specs.declared.Object.{Object}
use Rattle.rules.specs.Drive.{most_objects, sound_object, apart}
use Rattle.rules.specs.Operations.{no_object}
use Rattle.soundness.specs.Spans.{end_of, clash, clash_at, clear_at, each}
use Rattle.soundness.proofs.Sound.{each-every}

pub not_or : (a b : Bool) → not (a || b) ≡ (not a && not b)
not_or true b = refl
not_or false b = refl

pub not_and : (a b : Bool) → not (a && b) ≡ (not a || not b)
not_and true b = refl
not_and false b = refl

pub not_under : (a b : ℕ) → not (a under b) ≡ leb b a
not_under a b = go (ltb a b) refl
  where
    go : (t : Bool) → ltb a b ≡ t → not t ≡ leb b a
    go true e = sym (lt-leb b a (ltb-true a b e))
    go false e = sym (le-leb b a (ltb-false a b e))

abbrev pub clear : Object → Object → Bool
clear a b = not (clash a b)

-- ---- object n against those before it
module _ (l : List Object) (n : ℕ) (h : n < length l) where
  clash_at_lem : (i : ℕ)
      → clash_at (map Object.number l) (map Object.start l) (map end_of l) n i ≡ clash (get_or l i no_object) (get_or l n no_object)
  clash_at_lem i =
      rw (
        get_or-map Object.number l i no_object,
        get_or-map Object.number l n no_object,
        get_or-map Object.start l i no_object,
        get_or-map Object.start l n no_object,
        get_or-map end_of l i no_object,
        get_or-map end_of l n no_object,
      )

  -- what the loop over the places before n finds
  clear_at_lem : clear_at (map Object.number l) (map Object.start l) (map end_of l) n
      ≡ every (λ (a : Object). clear a (get_or l n no_object)) (take n l)
  clear_at_lem =
      each-every (λ (i : ℕ). not (clash_at (map Object.number l) (map Object.start l) (map end_of l) n i))
      (λ (a : Object). clear a (get_or l n no_object)) l no_object (λ i. ap not (clash_at_lem i)) n (omega arith)

-- ---- the first n objects, each against those before it
module _ (l : List Object) (long : length l ≡ most_objects) where
  test : ℕ → Bool
  test = clear_at (map Object.number l) (map Object.start l) (map end_of l)

  each-clear : (n : ℕ) → n ≤ most_objects → each test n ≡ pairs clear (take n l)
  unfolding each pairs test
  each-clear zero g = refl
  each-clear (suc n) g =
      let h : n < length l = omega arith in
      let more : pairs clear (take (suc n) l) ≡ pairs clear (take n l) && every (λ (a : Object). clear a (get_or l n no_object)) (take n l) =
      ap (λ (j : ℕ). pairs clear (take j l)) (sym (add-one n)) ∙ pairs-take clear l n no_object h in
      rw (each-clear n (omega arith), clear_at_lem l n h) (sym more)

  -- what the loop over the first n finds
  pub clear-each : (numbers starts ends : List ℕ) (n : ℕ) → n ≤ most_objects
      → numbers ≡ map Object.number l → starts ≡ map Object.start l → ends ≡ map end_of l
      → each (clear_at numbers starts ends) n ≡ pairs clear (take n l)
  unfolding test
  clear-each numbers starts ends n h e f g = rw (e, f, g) (each-clear n h)

-- ---- sound objects
module _ (q last : ℕ) (small : q < 2 ^ 32) where
  exact : (a : Object) → sound_object q last a ≡ true → end_of a ≡ a.start + a.size
  unfolding sound_object
  exact a s =
      let test : leb (a.start + a.size) q ≡ true = search (and_l, and_r) in
      let inside : a.start + a.size ≤ q = leb-true (a.start + a.size) q test in
      omega arith

  clear_apart : (a b : Object) → sound_object q last a ≡ true → sound_object q last b ≡ true → clear a b ≡ apart a b
  clear_apart a b s t =
      not_or (a.number is b.number) (b.start under end_of a && a.start under end_of b)
      ∙ ap (λ (x : Bool). a.number isnt b.number && x)
      (not_and (b.start under end_of a) (a.start under end_of b)
      ∙ rw (not_under b.start (end_of a), not_under a.start (end_of b), exact a s, exact b t))

  every-apart : (a : Object) → sound_object q last a ≡ true → (l : List Object) → every (sound_object q last) l ≡ true
      → every (clear a) l ≡ every (apart a) l
  unfolding every
  every-apart a s [] h = refl
  every-apart a s (b ∷ l) h =
      let one : sound_object q last b ≡ true = and_l (sound_object q last b) (every (sound_object q last) l) h in
      let rest : every (sound_object q last) l ≡ true = and_r (sound_object q last b) (every (sound_object q last) l) h in
      rw (clear_apart a b s one, every-apart a s l rest)

  pairs-apart : (l : List Object) → every (sound_object q last) l ≡ true → pairs clear l ≡ pairs apart l
  unfolding pairs every
  pairs-apart [] h = refl
  pairs-apart (a ∷ l) h =
      let one : sound_object q last a ≡ true = and_l (sound_object q last a) (every (sound_object q last) l) h in
      let rest : every (sound_object q last) l ≡ true = and_r (sound_object q last a) (every (sound_object q last) l) h in
      rw (every-apart a one l rest, pairs-apart l rest)

  -- row 1 of a list of objects, by either test
  pub clear-pairs : (l : List Object) → (every (sound_object q last) l && pairs clear l) ≡ (every (sound_object q last) l && pairs apart l)
  clear-pairs l = go (every (sound_object q last) l) refl
    where
      go : (b : Bool) → every (sound_object q last) l ≡ b → (b && pairs clear l) ≡ (b && pairs apart l)
      go true e = pairs-apart l e
      go false e = refl
