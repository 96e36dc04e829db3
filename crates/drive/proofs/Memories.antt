-- The memories in their places (`memories_in`): one of them, row 1's test of all, one entry more in one, other entries in
-- one; and all of them changed one after the other.
use mathlib.Core.Path.{◌≡◌, refl, sym, ap, ◌∙◌}
use mathlib.Core.Bool.{true, ◌&&◌}
use mathlib.Core.List.{List, [], ◌∷◌, ◌++◌, map}
use Prim.Native.Nat.{ℕ, ◌+◌, ◌*◌, ◌≤◌, ◌<◌, max}
use native.Mathlib.Numerals.{add-one}
use native.Mathlib.Omega.{arith}
use lib.Dec.{leb}
use borrow.Author.Tests.{le-leb, leb-true}
use borrow.Rule.Slice.PartMut.{mid_of, put_mid, same_len_mid}
use lib.ListN.{length, get_or, take, drop, set, length-take, length-drop, length-set, length-map, get_or-map}
use lib.Seq.{ext_get_or, take-take, take-append-le, take-suc-set}
use Rattle.lemmas.specs.Lists.{every, keep, update}
use Rattle.lemmas.specs.ListLaws.{every_nth, every_set, every_mapped, length-keep, set_as_update}
use Rattle.lemmas.specs.Fronts.{with_front}
use Rattle.lemmas.specs.Zips.{zip_length, zip_at, zip-set}
use Rattle.lemmas.specs.Chunks.{chunks, chunks-length, chunks_at, chunk-length, chunks-front, chunks-set}
use Rattle.rules.specs.declared.Entry.{Entry}
use Rattle.rules.specs.Drive.{largest_medium, lives, most_entries, quarter, refresh, sound, sound_partition}
use Rattle.keyring.specs.Keys.{partition_count}
use Rattle.memory.specs.Memory.{memory_count, memory_places, entry_size, no_entry, entries_in, Entered, Purged}
use Rattle.state.specs.Padded.{padded, padded_is, padded-length}
use Rattle.state.specs.Table.{partition_view}
use Rattle.memory.specs.Entries.{
  entries-length,
  entries-append,
  entries-take,
  entries-drop,
  entered_held,
  purged_entries,
  purged_times,
}
use Rattle.drive.specs.declared.Drive.{Drive}
use Rattle.drive.specs.View.{view, tables_in, memories_in, entries_fit, MemoriesFit}

-- ---- one memory of at most 64 entries, in its places
entered : (n : ℕ) (l : List Entry) → n ≤ most_entries → padded most_entries no_entry n (take most_entries l) ≡ take n l
entered n l h = padded_is most_entries no_entry n (take most_entries l) h ∙ take-take n most_entries l h

pub memories-length : (ns : List ℕ) (l : List Entry) → length (memories_in ns l) ≡ length ns
unfolding memories_in
memories-length ns l =
    let n = chunks-length most_entries (length ns) l in
    zip_length (padded most_entries no_entry) ns (chunks most_entries (length ns) l) ∙ omega arith

module _ (ns : List ℕ) (l : List Entry) (k : ℕ) (h : k < length ns) where
  abbrev own-places : List Entry
  own-places = take most_entries (drop (most_entries * k) l)

  -- memory k, in its places
  memory-placed : get_or (memories_in ns l) k [] ≡ padded most_entries no_entry (get_or ns k 0) own-places
  unfolding memories_in
  memory-placed =
      zip_at (padded most_entries no_entry) ns (chunks most_entries (length ns) l) k 0 [] []
      (omega (arith, zip_length (padded most_entries no_entry) ns (chunks most_entries (length ns) l), chunks-length most_entries (length ns) l))
      ∙ ap (padded most_entries no_entry (get_or ns k 0)) (chunks_at most_entries (length ns) k l h)

  memory_at : get_or ns k 0 ≤ most_entries
      → get_or (memories_in ns l) k [] ≡ take (get_or ns k 0) (drop (most_entries * k) l)
  memory_at s = memory-placed ∙ entered (get_or ns k 0) (drop (most_entries * k) l) s

  -- other places p in memory k, of which the first r count
  memory_put : (r : ℕ) (x p : List Entry) → chunks most_entries (length ns) x ≡ set (chunks most_entries (length ns) l) k p
      → memories_in (set ns k r) x ≡ set (memories_in ns l) k (padded most_entries no_entry r p)
  unfolding memories_in
  memory_put r x p e =
      rw (length-set ns k r, e) (zip-set (padded most_entries no_entry) ns (chunks most_entries (length ns) l) k r p)

  module _ (w : most_entries * length ns ≤ length l) where
    -- as long as its length says
    memory_long : length (get_or (memories_in ns l) k []) ≡ get_or ns k 0
    memory_long = ap length memory-placed
        ∙ padded-length most_entries no_entry (get_or ns k 0) own-places (chunk-length most_entries (length ns) k l h w)

    -- one entry more
    memory-joined : (n : ℕ) (x : Entry) → get_or ns k 0 ≡ n → n < most_entries
        → memories_in (set ns k (n + 1)) (set l (most_entries * k + n) x)
        ≡ update k (λ (old : List Entry). old ++ (x ∷ [])) (memories_in ns l)
    memory-joined n x e s =
        memory_put (n + 1) (set l (most_entries * k + n) x) (set own-places n x) (chunks-set most_entries (length ns) k l h w n x s)
        ∙ set_as_update (memories_in ns l) k (λ (old : List Entry). old ++ (x ∷ [])) []
        (padded most_entries no_entry (n + 1) (set own-places n x)) (padded_is most_entries no_entry (n + 1) (set own-places n x) (omega arith)
        ∙ ap (λ (j : ℕ). take j (set own-places n x)) (add-one n)
        ∙ take-suc-set own-places n x (omega (arith, chunk-length most_entries (length ns) k l h w))
        ∙ ap (λ (m : List Entry). m ++ (x ∷ [])) (take-take n most_entries (drop (most_entries * k) l) (omega arith)
        ∙ sym (memory_at (omega arith) ∙ ap (λ (j : ℕ). take j (drop (most_entries * k) l)) e)))

    -- other entries p, of which the first r count, in the first places
    memory_dropped : (n r : ℕ) (p : List Entry) → length p ≡ n → n ≤ most_entries → r ≤ n
        → memories_in (set ns k r) (take (most_entries * k) l ++ (p ++ drop n (drop (most_entries * k) l)))
        ≡ set (memories_in ns l) k (take r p)
    memory_dropped n r p e s t =
        ap (λ (j : ℕ). memories_in (set ns k r) (take (most_entries * k) l ++ (p ++ drop j (drop (most_entries * k) l)))) (sym e)
        ∙ memory_put r (take (most_entries * k) l ++ (p ++ drop (length p) (drop (most_entries * k) l))) (with_front p own-places)
        (chunks-front most_entries (length ns) k l h w p (omega arith))
        ∙ ap (set (memories_in ns l) k) (padded_is most_entries no_entry r (with_front p own-places) (omega arith)
        ∙ take-append-le r p (drop (length p) own-places) (omega arith))

-- row 1's test of the memories
memories_short : (ns : List ℕ) (l : List Entry) → most_entries * length ns ≤ length l
    → every (λ (m : List Entry). leb (length m) most_entries) (memories_in ns l) ≡ every entries_fit ns
memories_short ns l h =
    every_mapped entries_fit length (memories_in ns l) ∙ ap (every entries_fit)
    (ext_get_or 0 (map length (memories_in ns l)) ns (length-map (memories_in ns l) length ∙ memories-length ns l) (λ k q.
    get_or-map length (memories_in ns l) k [] ∙ memory_long ns l k
    (omega (arith, length-map (memories_in ns l) length, memories-length ns l)) h))

-- no memory has over 64 entries
pub short_at : (ns : List ℕ) (k : ℕ) → every entries_fit ns ≡ true → get_or ns k 0 ≤ most_entries
short_at ns k h = leb-true (get_or ns k 0) most_entries (every_nth entries_fit ns k 0 refl h)

-- ---- the arrays of five memories
module _ (ns es ts : List ℕ) (w : MemoriesFit ns es ts) where
  abbrev all : List Entry
  all = entries_in es ts

  pub places : length all ≡ memory_places
  places = entries-length es ts (omega (arith, w.entries, w.times)) ∙ w.times

  enough : most_entries * length ns ≤ length all
  enough = omega (arith, places, w.five)

  module _ (k : ℕ) (low : k < memory_count) where
    pub held_at : get_or (memories_in ns all) k [] ≡ take (get_or ns k 0) (drop (most_entries * k) all)
    held_at = memory_at ns all k (omega (arith, w.five)) (short_at ns k w.short)

    pub held_long : get_or ns k 0 ≡ length (get_or (memories_in ns all) k [])
    held_long = sym (memory_long ns all k (omega (arith, w.five)) enough)

    -- one entry more
    pub joined_at : (x : Entry) (fs us : List ℕ) → Entered es ts (most_entries * k + get_or ns k 0) x fs us
        → get_or ns k 0 < most_entries
        → memories_in (set ns k (get_or ns k 0 + 1)) (entries_in fs us)
        ≡ update k (λ (old : List Entry). old ++ (x ∷ [])) (memories_in ns all)
    joined_at x fs us p room = ap (memories_in (set ns k (get_or ns k 0 + 1)))
        (entered_held es ts (most_entries * k + get_or ns k 0) x fs us p)
        ∙ memory-joined ns all k (omega (arith, w.five)) enough (get_or ns k 0) x refl room

    -- the part of each array that memory k has: `size` places, `wide` numbers
    module _ (size wide : ℕ) (whole : size ≡ get_or ns k 0) (span : wide ≡ entry_size * size) where
      abbrev start : ℕ
      start = most_entries * k

      abbrev numbers : List ℕ
      numbers = mid_of (entry_size * start) wide es

      abbrev times : List ℕ
      times = mid_of start size ts

      inside : start + size ≤ memory_places
      inside = omega (arith, short_at ns k w.short)

      behind : entry_size * size ≤ length (drop (entry_size * start) es)
      behind = omega (arith, inside, w.entries, length-drop (entry_size * start) es)

      part_is : entries_in numbers times ≡ take size (drop start all)
      part_is =
          ap (λ (n : ℕ). entries_in (mid_of (entry_size * start) n es) times) span
          ∙ entries-take (drop (entry_size * start) es) (drop start ts) size behind
          ∙ ap (take size) (entries-drop es ts start (omega (arith, inside, w.entries)))

      pub part_at : entries_in numbers times ≡ get_or (memories_in ns all) k []
      part_at = part_is ∙ ap (λ (i : ℕ). take i (drop start all)) whole ∙ sym held_at

      -- what a purge of that part left: r entries, in fs and us
      module _ (mark r : ℕ) (fs us : List ℕ) (p : Purged mark numbers times fs us r) where
        long_numbers : length fs ≡ length numbers
        long_numbers = purged_entries mark numbers times fs us r p

        long_times : length us ≡ length times
        long_times = purged_times mark numbers times fs us r p

        -- as many numbers and times as before
        as_wide : (length fs ≡ entry_size * size) × (length us ≡ size)
        as_wide = (
          long_numbers ∙ omega (arith, span, behind, length-take wide (drop (entry_size * start) es)),
          long_times ∙ omega (arith, inside, w.times, length-take size (drop start ts), length-drop start ts),
        )

        even : length fs ≡ entry_size * length us
        even = omega (arith, as_wide.0, as_wide.1)

        put_is : entries_in (put_mid (entry_size * start) wide es fs) (put_mid start size ts us)
            ≡ take start all ++ (entries_in fs us ++ drop size (drop start all))
        put_is =
            entries-append (take (entry_size * start) es) (take start ts)
            (omega (arith, inside, w.entries, w.times, length-take (entry_size * start) es, length-take start ts))
            (fs ++ drop wide (drop (entry_size * start) es)) (us ++ drop size (drop start ts))
            ∙ rw (
              entries-take es ts start (omega (arith, inside, w.entries)),
              entries-append fs us even (drop wide (drop (entry_size * start) es)) (drop size (drop start ts)),
              span,
              entries-drop (drop (entry_size * start) es) (drop start ts) size behind,
              entries-drop es ts start (omega (arith, inside, w.entries)),
            )

        r_low : r ≤ size
        r_low =
            let b : length (entries_in numbers times) ≡ size = ap length part_at ∙ sym held_long ∙ sym whole in
            omega (arith, p.count, length-keep (lives mark) (entries_in numbers times))

        pub purged_at : memories_in (set ns k r) (entries_in (put_mid (entry_size * start) wide es fs) (put_mid start size ts us))
            ≡ set (memories_in ns all) k (keep (lives mark) (get_or (memories_in ns all) k []))
        purged_at =
            ap (memories_in (set ns k r)) put_is
            ∙ memory_dropped ns all k (omega (arith, w.five)) enough size r (entries_in fs us)
            (entries-length fs us even ∙ as_wide.1) (omega (arith, whole, short_at ns k w.short)) r_low
            ∙ ap (set (memories_in ns all) k) (p.front ∙ ap (keep (lives mark)) part_at)

        pub placed_still : MemoriesFit (set ns k r) (put_mid (entry_size * start) wide es fs) (put_mid start size ts us)
        placed_still = record {
          five = length-set ns k r ∙ w.five;
          short = every_set entries_fit ns k r (le-leb r most_entries (omega (arith, r_low, whole, short_at ns k w.short))) w.short;
          entries = same_len_mid (entry_size * start) wide es fs long_numbers ∙ w.entries;
          times = same_len_mid start size ts us long_times ∙ w.times;
        }

-- ---- the drive at a clock reading: its mark later, its memories without outlived entries
pub refreshed-view : (d : Drive) (clock mark : ℕ) (ns es ts : List ℕ) → mark ≡ max d.highwater clock
    → memories_in ns (entries_in es ts) ≡ map (keep (lives mark)) (memories_in d.lengths (entries_in d.entries d.times))
    → view (record {
      size = d.size;
      highwater = mark;
      keys = d.keys;
      tables = d.tables;
      lengths = ns;
      entries = es;
      times = ts;
    }) ≡ refresh clock (view d)
unfolding view refresh
refreshed-view d clock mark ns es ts e kept = rw (kept, e) refl

-- ---- row 1's test of a record, by its tables and its memories' lengths
pub sound-view : (d : Drive) → length d.lengths ≡ memory_count → length d.entries ≡ entry_size * memory_places
    → length d.times ≡ memory_places
    → sound (view d) ≡ (leb d.size largest_medium
    && every (sound_partition (quarter d.size)) (map partition_view (tables_in partition_count d.tables)) && every entries_fit d.lengths)
unfolding sound view
sound-view d five es ts =
    let long : length (entries_in d.entries d.times) ≡ length d.times =
    entries-length d.entries d.times (omega arith) in
    rw (memories_short d.lengths (entries_in d.entries d.times) (omega arith)) refl
