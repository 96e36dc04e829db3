-- Document 01, "Drive state", nonce memories: a memory of the record as the rules see it. mark: the drive's time.
-- es: the numbers of a memory's entries. ts: their times.
use Rattle.std.specs.Prelude.{◌≡◌, ℕ, ◌+◌, ◌-◌, ◌*◌, ◌/◌, ◌<◌, ◌≤◌, min, true, false, not, List, [], ◌∷◌, length, take, drop, nat_lt, slice_index, slice_set}
use mathlib.Core.List.{zip_with}
use Rattle.std.proofs.Common.{arith, le-leb, lt-ltb, le-ltb}
use Rattle.std.proofs.Math.Decide.{dec_lt}
use Rattle.std.proofs.lemmas.Bool.{lt-leb}
use Rattle.lemmas.specs.Lists.{keep, splice}
use Rattle.lemmas.specs.Chunks.{chunks}
use Rattle.rules.specs.declared.Entry.{Entry}
use Rattle.rules.specs.Drive.{most_entries, time_window, lives}

-- ---- how many memories a drive has, and how many places for entries all of them together
abbrev pub memory_count : ℕ
memory_count = 5

abbrev pub memory_places : ℕ
memory_places = memory_count * most_entries

-- ---- an entry's numbers, all but its time, in the order in which they stand one behind the other; and how many
abbrev pub numbers_of : Entry → List ℕ
numbers_of e = e.slot ∷ e.holder ∷ e.count ∷ e.object ∷ []

abbrev pub entry_size : ℕ
entry_size = 4

-- an entry of its numbers and its time
abbrev pub entry_of : List ℕ → ℕ → Entry
entry_of l time = record { slot = slice_index l 0; holder = slice_index l 1; time = time; count = slice_index l 2; object = slice_index l 3 }

abbrev pub no_entry : Entry
no_entry = entry_of [] 0

-- "a memory holds, in order of grant, exactly its entries": as many as both rows have whole
unfoldable pub entries_in : List ℕ → List ℕ → List Entry
entries_in es ts = zip_with entry_of (chunks entry_size (length es / entry_size) es) ts

-- how many that are, of a row of n numbers and one of m times
abbrev pub whole_entries : ℕ → ℕ → ℕ
whole_entries n m = min (n / entry_size) m

-- ---- what a purge at a mark makes of the rows es, ts: fs, us, whose first r entries are those that live, in their order;
-- from place r on each row is as it was
pub record Purged (mark : ℕ) (es ts fs us : List ℕ) (r : ℕ) : Type 0 where
  pub count : r ≡ length (keep (lives mark) (entries_in es ts))
  pub front : take r (entries_in fs us) ≡ keep (lives mark) (entries_in es ts)
  pub entries : drop (entry_size * r) fs ≡ drop (entry_size * r) es
  pub times : drop r us ≡ drop r ts

-- ---- what entering e at place i makes of them: it stands there, and where there is no such place nothing changes
pub record Entered (es ts : List ℕ) (i : ℕ) (e : Entry) (fs us : List ℕ) : Type 0 where
  pub placed : i < length (entries_in es ts) → (fs ≡ splice es (entry_size * i) (numbers_of e)) × (us ≡ slice_set ts i e.time)
  pub nowhere : length (entries_in es ts) ≤ i → (fs ≡ es) × (us ≡ ts)

-- ---- laws: the test as the code makes it
pub lives_yes : (mark : ℕ) (e : Entry) → mark - time_window ≤ e.time → lives mark e ≡ true
lives_yes mark e h = le-leb mark (e.time + time_window) (omega arith)

pub lives_no : (mark : ℕ) (e : Entry) → e.time < mark - time_window → lives mark e ≡ false
lives_no mark e h = lt-leb mark (e.time + time_window) (omega arith)

pub outlived : (mark : ℕ) (e : Entry) → not (lives mark e) ≡ nat_lt e.time (mark - time_window)
outlived mark e = go (dec_lt e.time (mark - time_window))
  where
    go : Dec (e.time < mark - time_window) → not (lives mark e) ≡ nat_lt e.time (mark - time_window)
    go (yes h) = rw (lives_no mark e h, lt-ltb e.time (mark - time_window) h)
    go (no h) = rw (lives_yes mark e (omega arith), le-ltb e.time (mark - time_window) (omega arith))
