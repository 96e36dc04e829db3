-- Document 01, "Drive state": the drive record as the rules see it, whatever its fields hold.
use Rattle.std.specs.Prelude.{◌≡◌, Bool, true, ℕ, ◌*◌, length, get_or, leb}
use mathlib.Core.List.{List, map, zip_with}
use Rattle.lemmas.specs.Lists.{every}
use Rattle.lemmas.specs.Chunks.{chunks}
use Rattle.rules.specs.declared.Entry.{Entry}
use Rattle.rules.specs.Drive as rules
use Rattle.rules.specs.Drive.{most_objects, most_entries}
use Rattle.keyring.specs.Keys.{partition_count, keys_size, keys_in}
use Rattle.memory.specs.Memory.{memory_count, memory_places, entry_size, no_entry, entries_in}
use Rattle.state.specs.Padded.{padded}
use Rattle.state.specs.Table.{count_at, table_size, partition_view}
use Rattle.drive.specs.declared.Drive.{Drive}

-- n partitions' tables, one after the other
abbrev pub tables_in : ℕ → List ℕ → List (List ℕ)
tables_in n l = chunks table_size n l

-- the memories, by their lengths: each has 64 places of its own, one after the other, and its entries are at the first of
-- them. Where a length is over 64 there are that many entries, so that such a record is not sound
unfoldable pub memories_in : List ℕ → List Entry → List (List Entry)
memories_in ns l = zip_with (padded most_entries no_entry) ns (chunks most_entries (length ns) l)

-- the memories of a drive's three arrays: their lengths, the entries' numbers and the entries' times
abbrev pub memories_of : List ℕ → List ℕ → List ℕ → List (List Entry)
memories_of ns es ts = memories_in ns (entries_in es ts)

unfoldable pub view : Drive → rules.Drive
view d = record {
  size = d.size;
  tables = record { high_water = d.highwater; keys = keys_in d.keys; partitions = map partition_view (tables_in partition_count d.tables) };
  memories = memories_of d.lengths d.entries d.times;
}

-- ---- a record of which no count passes its array, as every sound one is
abbrev pub objects_fit : List ℕ → Bool
objects_fit t = leb (get_or t count_at 0) most_objects

abbrev pub entries_fit : ℕ → Bool
entries_fit n = leb n most_entries

-- five lengths (ns), none over 64, and the numbers and times of as many entries as five memories have places
pub record MemoriesFit (ns es ts : List ℕ) : Type 0 where
  pub five : length ns ≡ memory_count
  pub short : every entries_fit ns ≡ true
  pub entries : length es ≡ entry_size * memory_places
  pub times : length ts ≡ memory_places

pub record CountsFit (d : Drive) : Type 0 where
  pub keys : length d.keys ≡ keys_size
  pub tables : length d.tables ≡ partition_count * table_size
  pub objects : every objects_fit (tables_in partition_count d.tables) ≡ true
  pub memories : MemoriesFit d.lengths d.entries d.times
