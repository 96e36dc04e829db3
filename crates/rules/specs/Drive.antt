-- Document 01, "Drive state": what a drive holds, the sound record, the mark, the nonce memories,
-- and format with rows 24 to 26. Each partition has its operation table (document 02, change 5), of which a sound
-- record asks nothing.
-- d: a drive. t: its tables. p: a partition. q: the quarter.
use Rattle.std.specs.Prelude.{Bool, ◌&&◌, ◌||◌, cond, List, [], ◌∷◌, map, ℕ, ◌+◌, ◌/◌, max, length, get_or, replicate, leb}
use Rattle.std.proofs.Math.Option.{Option, none, some}
use Rattle.lemmas.specs.Tests.{◌over◌, ◌is◌, ◌isnt◌}
use Rattle.lemmas.specs.Lists.{every, pairs, keep}
use Rattle.lemmas.specs.RowTable.{Row, line, first_row}
use Rattle.rules.specs.Frame.{key_size}
use Rattle.rules.specs.declared.Object.{Object}
use Rattle.rules.specs.declared.Entry.{Entry}
use Rattle.rules.specs.declared.Need.{Need}
use Rattle.rules.specs.Needs.{default_needs}

-- ---- a partition, over any kind of object: the drive's objects are Objects, the ledger's have their bytes too.
-- `last` is the last version given, `needs` the operation table; objects stand in order of creation
pub record Partition (A : Type 0) : Type 0 where
  pub version : ℕ
  pub last : ℕ
  pub needs : List Need
  pub objects : List A

-- the partition with another version, last version given and objects
abbrev pub partition_with : {A B : Type 0} → ℕ → ℕ → List B → Partition A → Partition B
partition_with version last objects p = record { version = version; last = last; needs = p.needs; objects = objects }

-- ---- keys; none where one was never set. The partitions' keys and working keys (0 black, 1 gold) in a list each
abbrev pub Key : Type 0
Key = Option (List ℕ)

pub record Keys : Type 0 where
  pub master : Key
  pub drive : Key
  pub partition : List Key
  pub working0 : List Key
  pub working1 : List Key

-- ---- what drive and ledger both have: the mark (high-water mark of the clock), the keys, the four partitions
pub record Tables (A : Type 0) : Type 0 where
  pub high_water : ℕ
  pub keys : Keys
  pub partitions : List (Partition A)

-- ---- a drive: M, its tables, and the five nonce memories (replay memories) in order of grant
pub record Drive : Type 0 where
  pub size : ℕ
  pub tables : Tables Object
  pub memories : List (List Entry)

-- the drive with other tables and memories
abbrev pub drive_with : Tables Object → List (List Entry) → Drive → Drive
drive_with tables memories d = record { size = d.size; tables = tables; memories = memories }

module _ {A : Type 0} where
  -- a partition that has nothing, with version F;
  -- its operation table "starts, in row 24's drive too, as document 01's rule"
  abbrev pub empty_partition : ℕ → Partition A
  empty_partition F = record { version = F; last = F; needs = default_needs; objects = [] }

  abbrev pub partition_at : Tables A → ℕ → Partition A
  partition_at t p = get_or t.partitions p (empty_partition 0)

  -- the tables with another mark
  abbrev pub with_high_water : ℕ → Tables A → Tables A
  with_high_water mark t = record { high_water = mark; keys = t.keys; partitions = t.partitions }

-- ---- "Quarter q = M / 4 rounded down; partition p spans p × q up to (p + 1) × q"
abbrev pub quarter : ℕ → ℕ
quarter M = M / 4

-- the last version that there is: the largest number of four bytes
abbrev pub last_version : ℕ
last_version = 4_294_967_295

-- ---- "A drive record is sound when .."
-- "M is at most 16,777,216"
abbrev pub largest_medium : ℕ
largest_medium = 16_777_216

-- "at most 16 a partition", "64 at most"
abbrev pub most_objects : ℕ
most_objects = 16

abbrev pub most_entries : ℕ
most_entries = 64

-- "different numbers", "disjoint areas" (extents)
abbrev pub apart : Object → Object → Bool
apart a b = a.number isnt b.number && (leb (a.start + a.size) b.start || leb (b.start + b.size) a.start)

-- "numbers from 1", "nonempty areas inside its quarter and no version over the last given"
unfoldable pub sound_object : ℕ → ℕ → Object → Bool
sound_object q last a = leb 1 a.number && leb 1 a.size && leb (a.start + a.size) q && leb a.version last

unfoldable pub sound_partition : ℕ → Partition Object → Bool
sound_partition q p =
    leb (length p.objects) most_objects && every (sound_object q p.last) p.objects && pairs apart p.objects

unfoldable pub sound : Drive → Bool
sound d =
    leb d.size largest_medium
    && every (sound_partition (quarter d.size)) d.tables.partitions
    && every (λ (l : List Entry). leb (length l) most_entries) d.memories

-- ---- "each frame put to the gate first sets it to the larger of itself and the clock reading"
abbrev pub new_high_water : ℕ → ℕ → ℕ
new_high_water mark clock = max mark clock

-- how far, in milliseconds, a request's time T may lie from the mark
abbrev pub time_window : ℕ
time_window = 5000

-- "its entries with T + 5,000 at least the mark"
abbrev pub lives : ℕ → Entry → Bool
lives mark e = leb mark (e.time + time_window)

-- two entries are one nonce: "slot, holder, T, count" and, by change 2 of document 02, "the credential's object too"
unfoldable pub same_entry : Entry → Entry → Bool
same_entry a b =
    a.slot is b.slot && a.holder is b.holder && a.time is b.time && a.count is b.count && a.object is b.object

-- the mark rises, outlived entries go
unfoldable pub refresh : ℕ → Drive → Drive
refresh clock d =
    let mark = new_high_water d.tables.high_water clock in
    drive_with (with_high_water mark d.tables) (map (keep (lives mark)) d.memories) d

-- ---- format: "No object exists, no partition or working key is set, each partition's version is F, the mark is 0"
abbrev pub new_keys : Key → Key → Keys
new_keys master drive = record {
  master = master;
  drive = drive;
  partition = replicate 4 none;
  working0 = replicate 4 none;
  working1 = replicate 4 none;
}

abbrev pub new_tables : {A : Type 0} → ℕ → Key → Key → Tables A
new_tables F master drive = record { high_water = 0; keys = new_keys master drive; partitions = replicate 4 (empty_partition F) }

abbrev pub new_drive : ℕ → Tables Object → Drive
new_drive M t = record { size = M; tables = t; memories = replicate 5 [] }

pub record Formatted : Type 0 where
  pub row : ℕ
  pub drive : Drive
  pub medium : List ℕ

unfoldable pub format_rows : List ℕ → ℕ → List ℕ → List ℕ → List Row
format_rows medium F master drive =
    line 24 (length medium over largest_medium)
    ∷ line 25 (F is 0)
    ∷ line 26 (length master isnt key_size || length drive isnt key_size)
    ∷ []

-- row 24: "the drive returned has no key, object or entry, and M, versions and mark are 0"
abbrev pub no_drive : Drive
no_drive = new_drive 0 (new_tables 0 none none)

unfoldable pub format : List ℕ → ℕ → List ℕ → List ℕ → Formatted
format medium F master drive =
    let row = first_row (format_rows medium F master drive) in
    cond (row is 0)
    (record {
      row = 0;
      drive = new_drive (length medium) (new_tables F (some master) (some drive));
      medium = replicate (length medium) 0;
    })
    (record { row = row; drive = no_drive; medium = medium })
