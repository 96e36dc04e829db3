-- Laws of loops that work through a list l from its front, in place: f stands at the front so far, and behind it all is
-- as it was.
use Rattle.std.specs.Prelude.{◌≡◌, refl, Bool, true, false, List, [], ◌∷◌, ◌++◌, map, ℕ, zero, suc, ◌+◌, ◌-◌, ◌≤◌, ◌<◌, length, get_or, take, drop, set}
use Rattle.std.proofs.Common.{sym, ap, ◌∙◌, append-nil, arith, length-append, length-drop, length-take, drop_of_length-le, drop-cons, drop-drop, drop-set-lt, get_or-append-add, get_or-drop}
use Rattle.std.proofs.lemmas.List.{length-map, set_at}
use Rattle.std.proofs.Math.Seq.{append_snoc}
use Rattle.lemmas.specs.Lists.{keep}
use Rattle.lemmas.specs.ListLaws.{length-keep}
use Rattle.lemmas.specs.Loops.{keep_next, keep_same, map-take}

-- l with f in the place of its first elements
abbrev pub with_front : {A : Type 0} → List A → List A → List A
with_front f l = f ++ drop (length f) l

module _ {A : Type 0} (f l : List A) where
  pub front_length : length f ≤ length l → length (with_front f l) ≡ length l
  front_length h = simp (length-append, length-drop) (omega arith)

  -- behind f all is as in l
  pub front_behind : (i : ℕ) (d : A) → length f ≤ i → get_or (with_front f l) i d ≡ get_or l i d
  front_behind i d h =
      let k = length f in
      let a : i ≡ k + (i - k) = omega arith in
      ap (λ (j : ℕ). get_or (with_front f l) j d) a ∙ get_or-append-add f (drop k l) (i - k) d ∙ get_or-drop k l (i - k) d
      ∙ ap (λ (j : ℕ). get_or l j d) (sym a)

  -- one more in front
  joined : (x : A) → f ++ x ∷ drop (suc (length f)) l ≡ with_front (f ++ (x ∷ [])) l
  joined x =
      let n = length-append f (x ∷ []) in
      let e : suc (length f) ≡ length (f ++ (x ∷ [])) = omega arith in
      ap (λ (j : ℕ). f ++ x ∷ drop j l) e ∙ sym (append_snoc f x (drop (length (f ++ (x ∷ []))) l))

  -- x is stored behind f
  pub front_store : (k : ℕ) (x d : A) → length f ≡ k → k < length l
      → set (with_front f l) k x ≡ with_front (f ++ (x ∷ [])) l
  front_store k x d e h =
      let m : length f < length l = omega arith in
      ap (λ (r : List A). set (f ++ r) k x) (drop-cons l (length f) d m)
      ∙ set_at f (get_or l (length f) d) (drop (suc (length f)) l) x k e ∙ joined x

  -- f is as long as l
  pub front_all : length l ≤ length f → with_front f l ≡ f
  front_all h = rw (drop_of_length-le l {i = length f} h) (append-nil f)

module _ {A : Type 0} where
  -- the first n stand at the front
  pub front-taken : (n : ℕ) (l : List A) → l ≡ with_front (take n l) l
  front-taken zero l = refl
  front-taken (suc n) [] = refl
  front-taken (suc n) (x ∷ l) = ap (λ (r : List A). x ∷ r) (front-taken n l)

  -- a loop that applies f to one element after the other: rs is the list when i of them are done
  pub front-map : (f : A → A) (l rs : List A) (i : ℕ) (d : A) → i < length l → rs ≡ with_front (map f (take i l)) l
      → set rs i (f (get_or rs i d)) ≡ with_front (map f (take (i + 1) l)) l
  front-map f l rs i d h e =
      let done = map f (take i l) in
      let long : length done ≡ i = length-map (take i l) f ∙ length-take i l ∙ omega arith in
      let next : get_or rs i d ≡ get_or l i d =
      ap (λ (r : List A). get_or r i d) e ∙ front_behind done l i d (omega arith) in
      ap (λ (r : List A). set r i (f (get_or rs i d))) e ∙ front_store done l i (f (get_or rs i d)) d long h
      ∙ ap (λ (r : List A). with_front r l) (ap (λ (x : A). done ++ (f x ∷ [])) next ∙ sym (map-take f l i d h))

  -- a loop that moves what passes a test to the front: rs is the list when i of l are looked at and k of them are kept
  module _ (t : A → Bool) (l rs : List A) (i k : ℕ) (d : A) (h : i < length l)
      (e : rs ≡ with_front (keep t (take i l)) l) (n : k ≡ length (keep t (take i l))) where
    pub kept_low : k ≤ i
    kept_low = omega (arith, length-keep t (take i l), length-take i l)

    -- the next is not yet changed
    pub kept_at : get_or rs i d ≡ get_or l i d
    kept_at = ap (λ (r : List A). get_or r i d) e ∙ front_behind (keep t (take i l)) l i d (omega (arith, kept_low))

    pub kept_one : t (get_or l i d) ≡ true → (set rs k (get_or l i d) ≡ with_front (keep t (take (i + 1) l)) l)
        × (k + 1 ≡ length (keep t (take (i + 1) l)))
    kept_one p =
        let kept = keep t (take i l) in
        let next = keep_next t l i d h p in (
          ap (λ (r : List A). set r k (get_or l i d)) e
              ∙ front_store kept l k (get_or l i d) d (sym n) (omega (arith, kept_low))
              ∙ ap (λ (f : List A). with_front f l) (sym next),
          omega (arith, ap length next, length-append kept (get_or l i d ∷ [])),
        )

    pub kept_none : t (get_or l i d) ≡ false → (rs ≡ with_front (keep t (take (i + 1) l)) l)
        × (k ≡ length (keep t (take (i + 1) l)))
    kept_none p =
        let same = sym (keep_same t l i d h p) in
        (e ∙ ap (λ (f : List A). with_front f l) same, n ∙ ap length same)

  -- a store at place k leaves what stands behind it
  pub behind_store : (l rs : List A) (k : ℕ) (x : A) → drop k rs ≡ drop k l
      → drop (k + 1) (set rs k x) ≡ drop (k + 1) l
  behind_store l rs k x e =
      drop-set-lt (k + 1) rs k x (omega arith) ∙ sym (drop-drop 1 k rs) ∙ ap (drop 1) e ∙ drop-drop 1 k l
