-- Change 5 of document 02, lists of calls computed. The table "reads need look too" is loaded: a read with rights 1 is 13,
-- with rights 5 granted, and so after bad tables, which are 31, and after a raise. Then writes at level 2: at level 1 a
-- write is 7. Then keys at level 2: by it under slot 2, not under slot 3, and no table counts for operation 8.
use mathlib.Core.Path.{◌≡◌, ap}
use mathlib.Core.Option.{none, some}
use mathlib.Core.List.{[], ◌∷◌, List, map}
use Prim.Native.Nat.{ℕ}
use lib.ListN.{get_or, replicate, set}
use Rattle.rules.specs.declared.Credential.{Credential}
use Rattle.rules.specs.declared.Request.{Request}
use Rattle.rules.specs.Demands.{after, State}
use Rattle.rules.specs.Drive.{empty_partition}
use Rattle.rules.specs.Needs.{default_needs, needs_at}
use Rattle.rules.specs.OperationTable.{table_of}
use Rattle.worked.proofs.Frames.{
  ask,
  begin,
  by,
  drive_key,
  frames_opened,
  partition_key,
  put,
  seed,
  set_partition,
  sets_key,
  set_working,
  working_key,
}
use Rattle.worked.proofs.Signed.{after_with, AllKnown9, call_of, digests, frame, raw, said, said_with_lem, signed, TestCall}

-- ---- tables: document 01's rule, and others that differ from it in one byte
rule : List ℕ
rule =
    0 ∷ 1 ∷ 0
    ∷ 0 ∷ 2 ∷ 0
    ∷ 0 ∷ 4 ∷ 0
    ∷ 0 ∷ 8 ∷ 0
    ∷ 0 ∷ 16 ∷ 0
    ∷ 0 ∷ 32 ∷ 0
    ∷ 0 ∷ 64 ∷ 1
    ∷ []

reads_need_look : List ℕ
reads_need_look = set rule 1 5

writes_at_level2 : List ℕ
writes_at_level2 = set rule 5 2

keys_at_level2 : List ℕ
keys_at_level2 = set rule 20 2

-- ---- frames: operation 8 under the partition key, with a count and a table; reads of object 5 with a version, rights
-- and a count; writes to it at a level, with a count
load : ℕ → List ℕ → TestCall
load count table = signed partition_key set_working (ask 8 1 count 0 0 21) table 100 64

reads : ℕ → ℕ → ℕ → TestCall
reads version rights count = put (by 0 5 version rights 0 0 10) (ask 1 0 count 2 6 0) []

four : List ℕ
four = 1 ∷ 2 ∷ 3 ∷ 4 ∷ []

writes : ℕ → ℕ → TestCall
writes level count = put (by 0 5 3 2 0 0 10) (ask 2 level count 3 4 4) four

-- a frame that rows 1 to 8 refuse
early : Credential → Request → List ℕ → TestCall
early c r payload = raw (record { frame = frame working_key c r payload; clock = 100; space = replicate 64 9 })

-- ---- the list
tables : List TestCall
tables =
    signed drive_key set_partition sets_key seed 100 64
    ∷ signed partition_key set_working sets_key seed 100 64
    ∷ put (by 0 0 1 16 0 0 0) (ask 5 0 2 5 10 0) []
    ∷ reads 2 1 3
    ∷ load 4 reads_need_look
    ∷ reads 2 1 5
    ∷ reads 2 5 5
    -- a mask 0, of bit 7, of bit 8; a level 3, and 0 for operation 7
    ∷ load 6 (set rule 1 0)
    ∷ load 6 (set rule 1 128)
    ∷ load 6 (set rule 0 1)
    ∷ load 6 (set rule 2 3)
    ∷ load 6 (set rule 20 0)
    -- a raise: object 5 has version 3
    ∷ put (by 0 5 2 8 0 0 0) (ask 4 0 6 0 0 0) []
    ∷ reads 3 1 7
    ∷ reads 3 5 7
    -- the next table: a read needs its own right alone, a write level 2. Under a key that was never set, 7 comes before 8
    ∷ load 8 writes_at_level2
    ∷ reads 3 1 9
    ∷ writes 1 10
    ∷ writes 2 10
    ∷ early (by 1 5 3 2 0 0 10) (ask 2 1 11 3 4 4) four
    ∷ early (by 1 5 3 2 0 0 10) (ask 2 2 11 3 4 4) four
    -- operation 7 by the table under slot 2, not under slot 3
    ∷ load 11 keys_at_level2
    ∷ signed partition_key set_working (ask 7 1 12 1 0 16) seed 100 64
    ∷ signed drive_key set_partition (ask 7 1 12 1 0 16) seed 100 64
    -- operation 8, which no table has: of 20 bytes, under slot 0, at level 0, without bit 6, and as it should be
    ∷ early set_working (ask 8 1 12 0 0 20) (replicate 20 1)
    ∷ early (by 0 0 0 64 1 0 0) (ask 8 1 12 0 0 21) rule
    ∷ early (by 2 0 0 64 0 0 0) (ask 8 0 12 0 0 21) rule
    ∷ signed partition_key (by 2 0 0 63 1 0 0) (ask 8 1 12 0 0 21) rule 100 64
    ∷ load 12 reads_need_look
    ∷ []

unfoldable tables_opened : ℕ
unfolding frames_opened rule reads_need_look writes_at_level2 keys_at_level2 load reads four writes early tables
tables_opened = 0

tables_known : AllKnown9 begin tables
unfolding tables_opened
tables_known = digests tables

tables_said : map (λ (l : List ℕ). get_or l 0 0) (said begin (map call_of tables))
    ≡ 0 ∷ 0 ∷ 0 ∷ 0 ∷ 0 ∷ 13 ∷ 0
    ∷ 31 ∷ 31 ∷ 31 ∷ 31 ∷ 31
    ∷ 0 ∷ 13 ∷ 0
    ∷ 0 ∷ 0 ∷ 7 ∷ 0 ∷ 7 ∷ 8
    ∷ 0 ∷ 7 ∷ 0
    ∷ 5 ∷ 6 ∷ 7 ∷ 13 ∷ 0
    ∷ []
unfolding tables_opened
tables_said = ap (λ (a : List (List ℕ)). map (λ (l : List ℕ). get_or l 0 0) a) (said_with_lem begin tables tables_known)

-- the last table loaded is there in the end, and the neighbour's is as it was
tables_left : map (table_of (after begin (map call_of tables)).drive) (0 ∷ 1 ∷ [])
    ≡ needs_at reads_need_look ∷ default_needs ∷ []
unfolding tables_opened
tables_left = ap (λ (s : State). map (table_of s.drive) (0 ∷ 1 ∷ [])) (after_with begin tables tables_known)

-- ---- a drive with a full memory: row 31 comes before row 22
full : State
full = record {
  drive = record {
    size = 0;
    tables = record {
      high_water = 0;
      keys = record {
        master = none;
        drive = none;
        partition = some partition_key ∷ replicate 3 none;
        working0 = replicate 4 none;
        working1 = replicate 4 none;
      };
      partitions = replicate 4 (empty_partition 1);
    };
    memories = replicate 64 (record { slot = 2; holder = 7; time = 100; count = 1; object = 0 }) ∷ replicate 4 [];
  };
  medium = [];
}

filled : List TestCall
filled = load 2 (set rule 20 0) ∷ load 2 rule ∷ []

filled_said : map (λ (l : List ℕ). get_or l 0 0) (said full (map call_of filled)) ≡ 31 ∷ 22 ∷ []
unfolding full filled tables_opened
filled_said = ap (λ (a : List (List ℕ)). map (λ (l : List ℕ). get_or l 0 0) a) (said_with_lem full filled (digests filled))
