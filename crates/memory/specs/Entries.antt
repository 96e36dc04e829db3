-- Laws of `entries_in`: how many entries there are, the i-th, one entered, and what a part of both rows is of the entries.
use Rattle.std.specs.Prelude.{◌≡◌, Bool, ◌||◌, ℕ, zero, suc, ◌+◌, ◌-◌, ◌*◌, ◌/◌, ◌<◌, ◌≤◌, false, not, List, [], ◌∷◌, ◌++◌, map, length, take, drop, nat_lt, slice_index, slice_index_or, slice_set}
use Rattle.std.specs.List.{list_any, zip}
use Rattle.std.specs.Simd.{first_chunks}
use mathlib.Core.List.{zip_with}
use Rattle.std.proofs.Math.Path.{refl, ap}
use Rattle.std.proofs.Common.{sym, ◌∙◌, length-take, ext_get_or, get_or-take, take_all}
use Rattle.std.proofs.Math.Decide.{dec_lt}
use native.Mathlib.Omega.{arith}
use Rattle.std.proofs.Math.ListN.{length-append, length-drop, get_or-map}
use Rattle.std.proofs.lemmas.List.{length-map}
use Rattle.std.proofs.Math.Seq.{drop-drop, length-take-le, set_out}
use Rattle.lemmas.specs.Lists.{some?, keep, part, splice}
use Rattle.lemmas.specs.ListLaws.{length-keep, some_mapped, some_same}
use Rattle.lemmas.specs.Loops.{keep_all}
use Rattle.lemmas.specs.Parts.{length-splice}
use Rattle.lemmas.specs.Zips.{zip_length, zip_at, zip-set, zip-take, zip-drop, zip-append}
use Rattle.lemmas.specs.Chunks.{
  chunks,
  chunks-length,
  chunks_at,
  chunks_put,
  chunks-take,
  chunks-drop,
  chunks-append,
}
use Rattle.rules.specs.declared.Entry.{Entry}
use Rattle.rules.specs.Drive.{time_window, lives}
use Rattle.memory.specs.Memory.{
  numbers_of,
  entry_size,
  entry_of,
  no_entry,
  entries_in,
  whole_entries,
  outlived,
  Purged,
  Entered,
}

module _ (es ts : List ℕ) where
  -- each entry's numbers
  abbrev numbered : List (List ℕ)
  numbered = chunks entry_size (length es / entry_size) es

  numbered-count : length numbered ≡ length es / entry_size
  numbered-count = chunks-length entry_size (length es / entry_size) es

  pub entries-count : length (entries_in es ts) ≡ whole_entries (length es) (length ts)
  unfolding entries_in
  entries-count = omega (arith, zip_length entry_of numbered ts, numbered-count)

  pub entries_at : (i : ℕ) → i < length (entries_in es ts)
      → slice_index_or (entries_in es ts) i no_entry ≡ entry_of (part es (entry_size * i) entry_size) (slice_index ts i)
  unfolding entries_in part
  entries_at i h =
      zip_at entry_of numbered ts i [] 0 no_entry h
      ∙ ap (λ (l : List ℕ). entry_of l (slice_index ts i))
      (chunks_at entry_size (length es / entry_size) i es (omega (arith, zip_length entry_of numbered ts, numbered-count)))

  pub entries-set : (i : ℕ) (e : Entry) → i < length (entries_in es ts)
      → entries_in (splice es (entry_size * i) (numbers_of e)) (slice_set ts i e.time) ≡ slice_set (entries_in es ts) i e
  unfolding entries_in splice
  entries-set i e h =
      let low : i < length es / entry_size = omega (arith, zip_length entry_of numbered ts, numbered-count) in
      let long : length (splice es (entry_size * i) (numbers_of e)) ≡ length es =
      length-splice es (numbers_of e) (entry_size * i) (omega arith) in
      rw (
        long,
        ← drop-drop entry_size (entry_size * i) es,
        chunks_put entry_size (length es / entry_size) i es (numbers_of e) low (omega arith) refl,
      ) (zip-set entry_of numbered ts i (numbers_of e) e.time)

  -- ---- the first k, and those behind them
  pub entries-take : (k : ℕ) → entry_size * k ≤ length es
      → entries_in (take (entry_size * k) es) (take k ts) ≡ take k (entries_in es ts)
  unfolding entries_in
  entries-take k h =
      let long : length (take (entry_size * k) es) ≡ entry_size * k = length-take-le (entry_size * k) es h in
      let count : length (take (entry_size * k) es) / entry_size ≡ k = omega arith in
      rw (count, chunks-take entry_size k (length es / entry_size) es (omega arith)) (zip-take entry_of k numbered ts)

  pub entries-drop : (k : ℕ) → entry_size * k ≤ length es
      → entries_in (drop (entry_size * k) es) (drop k ts) ≡ drop k (entries_in es ts)
  unfolding entries_in
  entries-drop k h =
      let n : ℕ = length (drop (entry_size * k) es) / entry_size in
      let count : length es / entry_size ≡ k + n = omega (arith, length-drop (entry_size * k) es) in
      rw (count, chunks-drop entry_size k n es) (zip-drop entry_of k (chunks entry_size (k + n) es) ts)

  -- ---- rows that have as many entries, and nothing left over
  module _ (even : length es ≡ entry_size * length ts) where
    pub entries-length : length (entries_in es ts) ≡ length ts
    entries-length = omega (arith, entries-count)

    pub entries-append : (fs us : List ℕ) → entries_in (es ++ fs) (ts ++ us) ≡ entries_in es ts ++ entries_in fs us
    unfolding entries_in
    entries-append fs us =
        let n : length es / entry_size ≡ length ts = omega arith in
        let count : length (es ++ fs) / entry_size ≡ length ts + length fs / entry_size =
        omega (arith, length-append es fs) in
        rw (n, count, chunks-append entry_size (length ts) (length fs / entry_size) es fs even)
        (zip-append entry_of (chunks entry_size (length ts) es) (chunks entry_size (length fs / entry_size) fs) ts us
        (chunks-length entry_size (length ts) es))

  -- ---- the entries' times
  entries-times : map Entry.time (entries_in es ts) ≡ take (length (entries_in es ts)) ts
  entries-times =
      let all = entries-count in
      let long = length-map (entries_in es ts) Entry.time in
      ext_get_or 0 (map Entry.time (entries_in es ts)) (take (length (entries_in es ts)) ts)
      (long ∙ sym (length-take (length (entries_in es ts)) ts ∙ omega arith)) (λ i q.
      let k : i < length (entries_in es ts) = omega arith in
      get_or-map Entry.time (entries_in es ts) i no_entry ∙ ap Entry.time (entries_at i k)
      ∙ sym (get_or-take (length (entries_in es ts)) ts i 0 k))

  -- a memory with no outlived entry, by its times, is as a purge leaves it
  pub none_outlived : (mark k : ℕ) → k ≡ length (entries_in es ts)
      → some? (λ (x : ℕ). nat_lt x (mark - time_window)) (take k ts) ≡ false → Purged mark es ts es ts k
  none_outlived mark k e f = record {
    count = rw all e;
    front = take_all k (entries_in es ts) (omega arith) ∙ sym all;
    entries = refl;
    times = refl;
  }
    where
      all : keep (lives mark) (entries_in es ts) ≡ entries_in es ts
      all = keep_all (lives mark) (entries_in es ts)
          (some_same (λ (x : Entry). not (lives mark x)) (λ (x : Entry). nat_lt x.time (mark - time_window))
          (outlived mark) (entries_in es ts)
          ∙ some_mapped (λ (x : ℕ). nat_lt x (mark - time_window)) Entry.time (entries_in es ts)
          ∙ ap (some? (λ (x : ℕ). nat_lt x (mark - time_window))) entries-times ∙ rw e at f)

-- ---- an entry entered is one of them
pub entered_held : (es ts : List ℕ) (i : ℕ) (e : Entry) (fs us : List ℕ) → Entered es ts i e fs us
    → entries_in fs us ≡ slice_set (entries_in es ts) i e
entered_held es ts i e fs us p = go (dec_lt i (length (entries_in es ts)))
  where
    go : Dec (i < length (entries_in es ts)) → entries_in fs us ≡ slice_set (entries_in es ts) i e
    go (yes h) = rw ((p.placed h).0, (p.placed h).1) (entries-set es ts i e h)
    go (no h) =
        let past : length (entries_in es ts) ≤ i = omega arith in
        rw ((p.nowhere past).0, (p.nowhere past).1) (sym (set_out (entries_in es ts) i e past))

-- ---- a purge leaves each row as long as it was
as_long : (r : ℕ) (x y : List ℕ) → r ≤ length x → r ≤ length y → drop r x ≡ drop r y → length x ≡ length y
as_long r x y p q e =
    let cut : length (drop r x) ≡ length (drop r y) = ap length e in
    omega (arith, length-drop r x, length-drop r y, cut)

module _ (mark : ℕ) (es ts fs us : List ℕ) (r : ℕ) (p : Purged mark es ts fs us r) where
  before : r ≤ whole_entries (length es) (length ts)
  before = omega (arith, p.count, length-keep (lives mark) (entries_in es ts), entries-count es ts)

  after : r ≤ whole_entries (length fs) (length us)
  after =
      let whole : length (take r (entries_in fs us)) ≡ r = ap length p.front ∙ sym p.count in
      omega (arith, whole, length-take r (entries_in fs us), entries-count fs us)

  pub purged_entries : length fs ≡ length es
  purged_entries = as_long (entry_size * r) fs es (omega (arith, after)) (omega (arith, before)) p.entries

  pub purged_times : length us ≡ length ts
  purged_times = as_long r us ts (omega (arith, after)) (omega (arith, before)) p.times

-- ---- a search over the entries, as the code makes it over their numbers and times
pub some_any : {A : Type 0} (t : A → Bool) (xs : List A) → some? t xs ≡ list_any t xs
unfolding some?
some_any t [] = refl
some_any t (x ∷ xs) = ap (λ (b : Bool). t x || b) (some_any t xs)

chunks_are : (n : ℕ) (l : List ℕ) → chunks entry_size n l ≡ first_chunks entry_size n l
unfolding chunks
chunks_are zero l = refl
chunks_are (suc n) l = ap (λ (r : List (List ℕ)). take entry_size l ∷ r) (chunks_are n (drop entry_size l))

some_zipped : (t : Entry → Bool) (ls : List (List ℕ)) (ts : List ℕ)
    → some? t (zip_with entry_of ls ts) ≡ list_any (λ (p : List ℕ × ℕ). t (entry_of p.0 p.1)) (zip ls ts)
unfolding some? zip_with
some_zipped t [] ts = refl
some_zipped t (l ∷ ls) [] = refl
some_zipped t (l ∷ ls) (time ∷ ts) = ap (λ (b : Bool). t (entry_of l time) || b) (some_zipped t ls ts)

pub some_held : (t : Entry → Bool) (es ts : List ℕ) → some? t (entries_in es ts)
    ≡ list_any (λ (p : List ℕ × ℕ). t (entry_of p.0 p.1)) (zip (first_chunks entry_size (length es / entry_size) es) ts)
unfolding entries_in
some_held t es ts =
    ap (λ (ls : List (List ℕ)). some? t (zip_with entry_of ls ts)) (chunks_are (length es / entry_size) es)
    ∙ some_zipped t (first_chunks entry_size (length es / entry_size) es) ts
