-- Document 01, "Drive state": the drive's fourteen keys in their bytes, ks. First the keys, one after the other, then a
-- byte for each key that says, not 0, that it was set. The keys are the four partitions' working keys 0 (black), their
-- working keys 1 (gold), their partition keys, the drive key and the master key.
-- j: a key's place. p: a partition.
use Rattle.std.specs.Prelude.{Bool, ◌&&◌, cond, List, [], ◌∷◌, ℕ, ◌+◌, ◌*◌, length, get_or, replicate, Option, Some, None}
use Rattle.std.proofs.Math.Option.{none, some}
use Rattle.lemmas.specs.Tests.{◌under◌, ◌is◌, ◌isnt◌}
use Rattle.lemmas.specs.Lists.{part, splice}
use Rattle.rules.specs.Frame.{key_size}
use Rattle.rules.specs.Drive as rules

-- ---- places of keys
abbrev pub partition_count : ℕ
partition_count = 4

abbrev pub working0_from : ℕ
working0_from = 0

abbrev pub working1_from : ℕ
working1_from = working0_from + partition_count

abbrev pub partition_keys_from : ℕ
partition_keys_from = working1_from + partition_count

abbrev pub drive_key_at : ℕ
drive_key_at = partition_keys_from + partition_count

abbrev pub master_key_at : ℕ
master_key_at = drive_key_at + 1

-- how many keys there are; as a place it is no key's
abbrev pub key_count : ℕ
key_count = master_key_at + 1

-- ---- places of bytes: the first of those that say which keys are set, and all bytes
abbrev pub flags_from : ℕ
flags_from = key_size * key_count

abbrev pub keys_size : ℕ
keys_size = flags_from + key_count

-- ---- the keys
-- key j, none where it was never set
unfoldable pub key_at : List ℕ → ℕ → rules.Key
key_at ks j = cond (get_or ks (flags_from + j) 0 isnt 0) (some (part ks (key_size * j) key_size)) none

-- keys by their places, as the rules see them: the four from a place on, and all
abbrev pub four_from : (ℕ → rules.Key) → ℕ → List rules.Key
four_from key first = key (first + 0) ∷ key (first + 1) ∷ key (first + 2) ∷ key (first + 3) ∷ []

abbrev pub keys_by : (ℕ → rules.Key) → rules.Keys
keys_by key = record {
  master = key master_key_at;
  drive = key drive_key_at;
  partition = four_from key partition_keys_from;
  working0 = four_from key working0_from;
  working1 = four_from key working1_from;
}

unfoldable pub keys_in : List ℕ → rules.Keys
keys_in ks = keys_by (key_at ks)

-- whether the bytes are all there and key j was ever set
abbrev pub is_set : List ℕ → ℕ → Bool
is_set ks j = length ks is keys_size && j under key_count && get_or ks (flags_from + j) 0 isnt 0

-- key j's bytes, none where it was never set
abbrev pub set_key : List ℕ → ℕ → Option (List ℕ)
set_key ks j = cond (is_set ks j) (Some (part ks (key_size * j) key_size)) None

-- ---- which key is meant
-- a key's place as the code has it: the count of keys is none
abbrev pub place_of : ℕ → Option ℕ
place_of j = cond (j under key_count) (Some j) None

-- partition p's key among the four from a place on
abbrev pub index_among_four : ℕ → ℕ → ℕ
index_among_four first p = cond (p under partition_count) (first + p) key_count

-- which key a slot names: "0 black, 1 gold, 2 partition key, 3 drive key, 4 master key"
unfoldable pub key_index : ℕ → ℕ → ℕ
key_index slot p =
    get_or (index_among_four working0_from p ∷ index_among_four working1_from p ∷ index_among_four partition_keys_from p ∷ drive_key_at
    ∷ master_key_at ∷ []) slot key_count

-- which key operation 7 sets: "Slot 4 sets the drive key, slot 3 partition A's key, slot 2 working key A (0 or 1)"
unfoldable pub target_index : ℕ → ℕ → ℕ → ℕ
target_index slot p a =
    cond (slot is 4) drive_key_at
    (cond (slot is 3) (index_among_four partition_keys_from a)
    (cond (a is 0) (index_among_four working0_from p) (index_among_four working1_from p)))

-- ---- the bytes after a key was set, and a fresh drive's
-- key j is new; where there is no key j, or lengths do not fit, all stays
unfoldable pub key_stored : ℕ → List ℕ → List ℕ → List ℕ
key_stored j new ks =
    cond (j under key_count && length ks is keys_size && length new is key_size)
    (splice (splice ks (key_size * j) new) (flags_from + j) (1 ∷ [])) ks

-- no key but the master key and the drive key; where either has not the size of a key, no key at all
unfoldable pub formatted_keys : List ℕ → List ℕ → List ℕ
formatted_keys master drive =
    cond (length master is key_size && length drive is key_size)
    (key_stored master_key_at master (key_stored drive_key_at drive (replicate keys_size 0))) (replicate keys_size 0)
