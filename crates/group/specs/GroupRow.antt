-- Document 02, change 6: rows 32 and 33 of a group object's bytes, and the walk along its list.
-- b: the object's bytes. i: how many of its numbers have been walked.
use Rattle.std.proofs.Math.Path.{◌≡◌, ap, refl}
use Rattle.std.proofs.Common.{sym, ◌∙◌, eq-eqb, ne_eqb, lt-ltb, le-ltb, add-one, get_or-take, get_or-drop, drop-drop}
use Rattle.std.specs.Prelude.{Bool, not, ◌||◌, ℕ, zero, suc, ◌+◌, ◌-◌, ◌/◌, ◌%◌, ◌≤◌, ◌<◌, replicate, slice_index}
use Rattle.std.specs.Int.{w32, from_be_bytes}
use Rattle.std.specs.Simd.{first_chunks}
use Rattle.std.proofs.Math.Bool.{true, false, or-false}
use mathlib.Core.List.{List, [], ◌∷◌, map}
use native.Mathlib.Omega.{arith}
use Rattle.std.proofs.Math.ListN.{length, take, drop, get_or}
use Rattle.std.proofs.Math.Seq.{drop-cons}
use Rattle.std.proofs.lemmas.List.{drop_all}
use Rattle.lemmas.specs.Tests.{◌is◌}
use Rattle.lemmas.specs.Lists.{some?}
use Rattle.lemmas.specs.BigEndian.{number_at, read_all}
use Rattle.lemmas.specs.RowTable.{line, first_row}
use Rattle.rules.specs.Group.{is_group_list, lists, member_size, members_in, rising}

-- 32. "when the group's bytes are no such list"; 33. "next, when the member is not in it"
unfoldable pub group_row : List ℕ → ℕ → ℕ
group_row b member = first_row (line 32 (not (is_group_list b)) ∷ line 33 (not (lists b member)) ∷ [])

-- a number is among these
abbrev pub has : ℕ → List ℕ → Bool
has member l = some? (λ (k : ℕ). k is member) l

-- ---- the numbers, four bytes each
abbrev pub places : List ℕ → List (List ℕ)
places b = first_chunks member_size (length b / member_size) b

-- what four bytes spell
spelled : (b : List ℕ) (i : ℕ) → number_at b i 4 ≡ from_be_bytes w32 (take 4 (drop i b))
unfolding number_at
spelled b i = let f = at 0 (omega arith) in let g = at 1 (omega arith) in let h = at 2 (omega arith) in let k = at 3 (omega arith) in omega arith
  where
    at : (k : ℕ) → k < 4 → slice_index (take 4 (drop i b)) k ≡ get_or b (i + k) 0
    at k h = get_or-take 4 (drop i b) k 0 h ∙ get_or-drop i b k 0

spelled_all : (b : List ℕ) (i n : ℕ) → read_all b i (replicate n 4) ≡ map (from_be_bytes w32) (first_chunks 4 n (drop i b))
unfolding read_all
spelled_all b i zero = refl
spelled_all b i (suc n) = λ j. spelled b i j ∷ (spelled_all b (i + 4) n ∙ behind) j
  where
    behind : map (from_be_bytes w32) (first_chunks 4 n (drop (i + 4) b))
        ≡ map (from_be_bytes w32) (first_chunks 4 n (drop 4 (drop i b)))
    behind = ap (λ (l : List ℕ). map (from_be_bytes w32) (first_chunks 4 n l)) (sym (drop-drop 4 i b))

pub members_are : (b : List ℕ) → members_in b ≡ map (from_be_bytes w32) (places b)
unfolding members_in
members_are b = spelled_all b 0 (length b / 4)

-- ---- the numbers from place i on
abbrev pub rest : List ℕ → ℕ → List ℕ
rest b i = read_all b i (replicate ((length b - i) / member_size) member_size)

-- one more, and none
pub rest_more : (b : List ℕ) (i : ℕ) → i < length b → (length b - i) % 4 ≡ 0 → rest b i ≡ number_at b i 4 ∷ rest b (i + 4)
unfolding read_all
rest_more b i h m =
    let e : (length b - i) / 4 ≡ suc ((length b - (i + 4)) / 4) = omega arith in
    ap (λ (n : ℕ). read_all b i (replicate n 4)) e

pub rest_none : (b : List ℕ) → rest b (length b) ≡ []
unfolding read_all
rest_none b = let e : (length b - length b) / 4 ≡ 0 = omega arith in ap (λ (n : ℕ). read_all b (length b) (replicate n 4)) e

-- ---- the walk: the numbers before the i-th rise up to `last`, and the member is among them where `found`
pub record Walked (ns : List ℕ) (member i last : ℕ) (found : Bool) : Type 0 where
  pub rises : rising 0 ns ≡ rising last (drop i ns)
  pub finds : has member ns ≡ (found || has member (drop i ns))

or_assoc : (a b c : Bool) → (a || (b || c)) ≡ (a || b || c)
or_assoc true b c = refl
or_assoc false b c = refl

module _ (ns : List ℕ) (member : ℕ) where
  pub walk_start : Walked ns member 0 0 false
  walk_start = record { rises = refl; finds = refl }

  more : (i n : ℕ) → i < length ns → n ≡ get_or ns i 0 → drop i ns ≡ n ∷ drop (i + 1) ns
  more i n h e = drop-cons ns i 0 h ∙ rw (e, add-one) refl

  pub walk_on : (i last n : ℕ) (found : Bool) → Walked ns member i last found → i < length ns → n ≡ get_or ns i 0 → last < n
      → Walked ns member (i + 1) n (found || n is member)
  unfolding rising some?
  walk_on i last n found w h e k = record {
    rises = w.rises ∙ ap (rising last) (more i n h e) ∙ rw (lt-ltb last n k) refl;
    finds = w.finds ∙ ap (λ (l : List ℕ). found || has member l) (more i n h e)
        ∙ or_assoc found (n is member) (has member (drop (i + 1) ns));
  }

  pub walk_falls : (i last n : ℕ) (found : Bool) → Walked ns member i last found → i < length ns → n ≡ get_or ns i 0 → n ≤ last
      → rising 0 ns ≡ false
  unfolding rising
  walk_falls i last n found w h e k = w.rises ∙ ap (rising last) (more i n h e) ∙ rw (le-ltb last n k) refl

  pub walk_end : (i last : ℕ) (found : Bool) → Walked ns member i last found → length ns ≤ i
      → (rising 0 ns ≡ true) × (has member ns ≡ found)
  unfolding rising some?
  walk_end i last found w h =
      let none : drop i ns ≡ [] = drop_all i ns h in
      (w.rises ∙ ap (rising last) none, w.finds ∙ ap (λ (l : List ℕ). found || has member l) none ∙ or-false found)

-- ---- the rows
-- no list
pub walk_odd : (b : List ℕ) (member : ℕ) → (length b % 4 ≡ 0 → ⊥) → group_row b member ≡ 32
unfolding group_row is_group_list first_row
walk_odd b member e = rw (ne_eqb (length b % 4) 0 e) refl

pub row_falls : (b : List ℕ) (member : ℕ) → length b % 4 ≡ 0 → rising 0 (members_in b) ≡ false → group_row b member ≡ 32
unfolding group_row is_group_list first_row
row_falls b member m e = rw (eq-eqb (length b % 4) 0 m, e) refl

pub row_walked : (b : List ℕ) (member : ℕ) (found : Bool) → length b % 4 ≡ 0 → rising 0 (members_in b) ≡ true
    → has member (members_in b) ≡ found → group_row b member ≡ first_row (line 33 (not found) ∷ [])
unfolding group_row is_group_list lists first_row
row_walked b member found m e h = rw (eq-eqb (length b % 4) 0 m, e, h) refl
