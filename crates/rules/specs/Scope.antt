-- A scope: what one frame can see and change. Of a drive that is the quarter's size, the mark, the keys, the partition
-- that its credential names and the nonce memory (replay memory) that its grant enters; of the ledger the same without
-- a memory. Rows 7 to 23 and 31, results and effects are defined of a scope, so that no frame mixes two partitions.
-- c: the numbers of a credential. s: a scope. t: tables. d: a drive.
use Rattle.std.specs.Prelude.{List, [], ℕ, get_or}
use Rattle.lemmas.specs.Lists.{update}
use Rattle.rules.specs.declared.Credential.{Credential}
use Rattle.rules.specs.declared.Object.{Object}
use Rattle.rules.specs.declared.Entry.{Entry}
use Rattle.rules.specs.Frame.{memory_index}
use Rattle.rules.specs.Drive.{Partition, partition_at, Keys, Tables, Drive, drive_with, quarter}

-- over any kind of object: the drive's objects are Objects, the ledger's have their bytes too
pub record Scope (A : Type 0) : Type 0 where
  pub quarter : ℕ
  pub high_water : ℕ
  pub keys : Keys
  pub partition : Partition A
  pub memory : List Entry

module _ {A : Type 0} where
  -- the same with another partition, with other keys, with another memory
  abbrev pub with_partition : Partition A → Scope A → Scope A
  with_partition p s = record {
    quarter = s.quarter;
    high_water = s.high_water;
    keys = s.keys;
    partition = p;
    memory = s.memory;
  }

  abbrev pub with_keys : Keys → Scope A → Scope A
  with_keys keys s = record {
    quarter = s.quarter;
    high_water = s.high_water;
    keys = keys;
    partition = s.partition;
    memory = s.memory;
  }

  abbrev pub with_memory : List Entry → Scope A → Scope A
  with_memory l s = record {
    quarter = s.quarter;
    high_water = s.high_water;
    keys = s.keys;
    partition = s.partition;
    memory = l;
  }

  -- the scope of a frame in tables over quarters of q bytes, with the memory l
  abbrev pub tables_scope : ℕ → Tables A → List Entry → Credential → Scope A
  tables_scope q t l c = record {
    quarter = q;
    high_water = t.high_water;
    keys = t.keys;
    partition = partition_at t c.partition;
    memory = l;
  }

  -- the tables with the keys and the partition of a scope
  abbrev pub with_scope : Credential → Scope A → Tables A → Tables A
  with_scope c s t = record {
    high_water = t.high_water;
    keys = s.keys;
    partitions = update c.partition (λ (old : Partition A). s.partition) t.partitions;
  }

-- ---- the scope of a frame in a drive, and the drive with the keys, the partition and the memory of a scope
abbrev pub drive_scope : Drive → Credential → Scope Object
drive_scope d c = tables_scope (quarter d.size) d.tables (get_or d.memories (memory_index c) []) c

abbrev pub drive_with_scope : Credential → Scope Object → Drive → Drive
drive_with_scope c s d =
    drive_with (with_scope c s d.tables) (update (memory_index c) (λ (old : List Entry). s.memory) d.memories) d
