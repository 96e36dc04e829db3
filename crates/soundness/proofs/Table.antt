-- A table's columns are its objects' numbers, versions, sizes and starts; so its partition is sound where the tests of the
-- columns pass.
use Rattle.std.proofs.Common.{◌≡◌, ℕ, ◌+◌, ◌^◌, ◌<◌, ◌≤◌, min, Bool, true, ◌&&◌, leb, List, map, length, get_or, take, drop, sym, ap, ◌∙◌, arith, length-drop, take_all, eq-eqb}
use mathlib.Core.Bool.{and_assoc}
use native.Mathlib.Decide.{dec_le}
use lib.ListN.{get_or-map}
use borrow.Author.Tests.{lt-leb}
use Rattle.lemmas.specs.Tests.{◌is◌, ◌under◌}
use Rattle.lemmas.specs.Lists.{every, pairs}
use Rattle.lemmas.specs.Loops.{take_within}
use Rattle.rules.specs.declared.Object.{Object}
use Rattle.rules.specs.Drive.{most_objects, sound_object, sound_partition, apart}
use Rattle.rules.specs.Operations.{no_object}
use Rattle.state.specs.Padded.{padded, padded_is, padded-length}
use Rattle.state.specs.Table.{starts_from, sizes_from, versions_from, numbers_from, count_at, last_at, table_size, places, partition_view}
use Rattle.state.specs.Places.{places-length}
use Rattle.state.specs.Columns.{column, numbers_are, versions_are, sizes_are, starts_are}
use Rattle.std.specs.Simd.{first_chunks}
use Rattle.std.proofs.Common.{refl, zero, suc, ◌*◌, ◌/◌, ◌-◌, drop-drop, not-suc-le-zero, le_of_suc-le-suc}
use Rattle.std.proofs.lemmas.List.{take_rest}
use Rattle.soundness.specs.Spans.{end_of, narrow, narrow_at, ends_of, sound_at, clear_at, each}
use Rattle.soundness.proofs.Sound.{each-every, sound-each}
use Rattle.soundness.proofs.Clear.{clear, clear-each, clear-pairs}

-- ---- the columns, as the code takes them: chunks of sixteen
chunk_at : (n i : ℕ) (l d : List ℕ) → i < n → get_or (first_chunks most_objects n l) i d ≡ take most_objects (drop (most_objects * i) l)
chunk_at zero i l d h = absurd (not-suc-le-zero h)
chunk_at (suc n) zero l d h = refl
chunk_at (suc n) (suc i) l d h =
    let e : most_objects + most_objects * i ≡ most_objects * suc i = omega arith in
    chunk_at n i (drop most_objects l) d (le_of_suc-le-suc h)
    ∙ ap (take most_objects) (drop-drop (most_objects * i) most_objects l ∙ ap (λ (a : ℕ). drop a l) e)

abbrev pub behind : List ℕ → List ℕ
behind t = take (length t - numbers_from) (drop numbers_from t)

pub column_at : (t : List ℕ) → length t ≡ table_size → (i : ℕ) (d : List ℕ) → i < 4
    → get_or (first_chunks most_objects (length (behind t) / most_objects) (behind t)) i d
    ≡ column t (numbers_from + most_objects * i) most_objects
column_at t e i d h =
    let n : length (drop numbers_from t) / most_objects ≡ 4 = omega (arith, length-drop numbers_from t) in
    rw (take_rest t numbers_from, n) (chunk_at 4 i (drop numbers_from t) d h) ∙ ap (take most_objects) (drop-drop (most_objects * i) numbers_from t)

module _ (t : List ℕ) (e : length t ≡ table_size) where
  ends_are : ends_of (column t starts_from most_objects) (column t sizes_from most_objects) ≡ map end_of (places t)
  unfolding ends_of places
  ends_are =
      ap (λ (s : List ℕ). ends_of s (column t sizes_from most_objects)) (starts_are t e)
      ∙ ap (ends_of (map Object.start (places t))) (sizes_are t e)

  narrow_are : each (narrow_at (column t sizes_from most_objects)) most_objects ≡ true → every narrow (places t) ≡ true
  narrow_are w =
      let sizes = map Object.size (places t) in
      let long = places-length t in
      let same : (i : ℕ) → narrow_at sizes i ≡ narrow (get_or (places t) i no_object) =
      λ i. ap (λ (z : ℕ). z under 2 ^ 32) (get_or-map Object.size (places t) i no_object) in
      ap (every narrow) (sym (take_all most_objects (places t) (omega arith)))
      ∙ sym (each-every (narrow_at sizes) narrow (places t) no_object same most_objects (omega arith))
      ∙ ap (λ (s : List ℕ). each (narrow_at s) most_objects) (sym (sizes_are t e))
      ∙ w

-- ---- a count within the places, and the tests of the places before it
module _ (q : ℕ) (t : List ℕ) where
  abbrev count : ℕ
  count = get_or t count_at 0

  abbrev last : ℕ
  last = get_or t last_at 0

  abbrev all : List Object
  all = padded most_objects no_object count (places t)

  abbrev held : List Object
  held = take count (places t)

  long : length all ≡ count
  long = padded-length most_objects no_object count (places t) (places-length t)

  by_count : Dec (count ≤ most_objects)
      → (leb (length all) most_objects && every (sound_object q last) all && pairs apart all)
      ≡ (leb count most_objects && every (sound_object q last) held && pairs apart held)
  by_count (yes k) = rw (long, padded_is most_objects no_object count (places t) k)
  by_count (no k) = rw (long, lt-leb count most_objects (omega arith))

  sound-viewed : sound_partition q (partition_view t)
      ≡ (leb count most_objects && every (sound_object q last) held && pairs apart held)
  unfolding partition_view sound_partition
  sound-viewed = by_count (dec_le count most_objects)

-- ---- what the tests of the columns find
module _ (q : ℕ) (small : q < 2 ^ 32) (t : List ℕ) (e : length t ≡ table_size) where
  pub table-sound : (ends : List ℕ) → ends ≡ ends_of (column t starts_from most_objects) (column t sizes_from most_objects)
      → each (narrow_at (column t sizes_from most_objects)) most_objects ≡ true
      → (n : ℕ) → n ≡ min (get_or t count_at 0) most_objects
      → (leb (get_or t count_at 0) most_objects
      && each (sound_at q (get_or t last_at 0) (column t numbers_from most_objects) (column t starts_from most_objects) ends (column t versions_from most_objects)) n
      && each (clear_at (column t numbers_from most_objects) (column t starts_from most_objects) ends) n)
      ≡ (length t is table_size && sound_partition q (partition_view t))
  table-sound ends f w n m =
      let l = places t in
      let long : length l ≡ most_objects = places-length t in
      let last = get_or t last_at 0 in
      let b = leb (get_or t count_at 0) most_objects in
      let good = every (sound_object q last) (take (get_or t count_at 0) l) in
      let k : n ≤ most_objects = omega arith in
      let g : ends ≡ map end_of l = f ∙ ends_are t e in
      let sound =
      sound-each q last small l (narrow_are t e w) (column t numbers_from most_objects) (column t starts_from most_objects) ends (column t versions_from most_objects) n (omega arith)
      (numbers_are t e) (starts_are t e) g (versions_are t e) in
      let free = clear-each l long (column t numbers_from most_objects) (column t starts_from most_objects) ends n k (numbers_are t e) (starts_are t e) g in
      rw (sound, free, take_within (get_or t count_at 0) most_objects l long n m, eq-eqb (length t) table_size e, sound-viewed q t)
      (and_assoc b good (pairs clear (take (get_or t count_at 0) l))
      ∙ ap (λ (x : Bool). b && x) (clear-pairs q last small (take (get_or t count_at 0) l))
      ∙ sym (and_assoc b good (pairs apart (take (get_or t count_at 0) l))))
