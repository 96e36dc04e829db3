-- Document 01, "The ledger of demand 3": what it holds, how it starts, what each call does to it.
-- M: the medium's size.
use Rattle.std.specs.Prelude.{cond, List, [], ◌∷◌, ◌++◌, map, ℕ, replicate}
use Rattle.std.proofs.Math.Option
use Rattle.std.proofs.Math.Option.{get_or, some}
use Rattle.lemmas.specs.Tests.{◌is◌, ◌isnt◌}
use Rattle.lemmas.specs.Lists.{splice, keep, find, change}
use Rattle.rules.specs.declared.Credential.{Credential}
use Rattle.rules.specs.declared.Object.{Object}
use Rattle.rules.specs.declared.Operation.{Operation}
use Rattle.rules.specs.declared.Operation.TheVariants.{Read, Write, Look, Raise, Create, Delete, SetKey, LoadTable}
use Rattle.rules.specs.Frame.{Fields, fields, operation_of, target_of}
use Rattle.rules.specs.Needs.{needs_at}
use Rattle.rules.specs.Drive.{Partition, partition_at, partition_with, Tables, with_high_water, new_tables, quarter, new_high_water}
use Rattle.rules.specs.Scope.{Scope, with_partition, with_keys, tables_scope, with_scope}
use Rattle.rules.specs.Operations.{placement_start, next_version, with_version, key_set, with_needs}

-- ---- "It holds a mark, the keys, and for each partition its version, the last version given
-- and its objects in order of creation, each with number, version, area and bytes." Change 5 of document 02: its operation
-- table, "which the ledger holds too"
pub record LedgerObject : Type 0 where
  pub object : Object
  pub bytes : List ℕ

abbrev pub Ledger : Type 0
Ledger = Tables LedgerObject

abbrev pub number_of : LedgerObject → ℕ
number_of h = h.object.number

-- the ledger's tables without the bytes
abbrev pub bare : Partition LedgerObject → Partition Object
bare p = partition_with p.version p.last (map LedgerObject.object p.objects) p

unfoldable pub tables_of : Ledger → Tables Object
tables_of l = record { high_water = l.high_water; keys = l.keys; partitions = map bare l.partitions }

-- the scope of a frame in the ledger, which has no nonce memory; and that without the bytes, as the rows judge it
abbrev pub ledger_scope : ℕ → Ledger → Credential → Scope LedgerObject
ledger_scope M l c = tables_scope (quarter M) l [] c

abbrev pub bare_scope : Scope LedgerObject → Scope Object
bare_scope s = record {
  quarter = s.quarter;
  high_water = s.high_water;
  keys = s.keys;
  partition = bare s.partition;
  memory = s.memory;
}

-- the bytes of the object numbered n in a partition; of the object that a credential names, whose list rows 32 and 33 judge; and
-- of the one that a frame reads, writes or looks at. Change 6 of document 02: "the granted writes that a read shows are the
-- member's, in the ledger too"
abbrev pub bytes_in : Partition LedgerObject → ℕ → List ℕ
bytes_in p n = get_or (Option.map LedgerObject.bytes (find number_of n p.objects)) []

abbrev pub ledger_group : Scope LedgerObject → Credential → List ℕ
ledger_group s c = bytes_in s.partition c.object

unfoldable pub bytes_of : Ledger → Fields → List ℕ
bytes_of l x = bytes_in (partition_at l x.cred.partition) (target_of x.cred x.req)

-- ---- "Start: mark 0; master and drive key set, no other; each partition's version and last given are F; no object."
-- Each operation table "starts .. as document 01's rule"
unfoldable pub ledger_start : ℕ → List ℕ → List ℕ → Ledger
ledger_start F master drive = new_tables F (some master) (some drive)

-- ---- what a grant does
-- "2: the data replaces the object's bytes from A up to A + B"; under a group credential, the member's
unfoldable pub with_bytes_written : ℕ → List ℕ → LedgerObject → LedgerObject
with_bytes_written offset new h = record { object = h.object; bytes = splice h.bytes offset new }

unfoldable pub ledger_written : ℕ → ℕ → List ℕ → Partition LedgerObject → Partition LedgerObject
ledger_written n offset new p = partition_with p.version p.last (change number_of n (with_bytes_written offset new) p.objects) p

-- "4: last given rises by one; the object, or for object 0 the partition, has it as version."
abbrev pub ledger_with_version : ℕ → LedgerObject → LedgerObject
ledger_with_version v h = record { object = with_version v h.object; bytes = h.bytes }

unfoldable pub ledger_raised : ℕ → Partition LedgerObject → Partition LedgerObject
ledger_raised n p =
    let v = next_version p in
    partition_with (cond (n is 0) v p.version) v (cond (n is 0) p.objects
    (change number_of n (ledger_with_version v) p.objects)) p

-- "5: last given rises by one; object A joins, with it as version,
-- the area that operation 5 finds among the partition's areas in the ledger, and B zero bytes."
unfoldable pub ledger_created : ℕ → ℕ → ℕ → Partition LedgerObject → Partition LedgerObject
ledger_created number size ledger_start p =
    let v = next_version p in
    let object : Object = record { number = number; version = v; size = size; start = ledger_start } in
    partition_with p.version v (p.objects ++ (record { object = object; bytes = replicate size 0 } ∷ [])) p

-- "6: the object leaves."
unfoldable pub ledger_deleted : ℕ → Partition LedgerObject → Partition LedgerObject
ledger_deleted n p = partition_with p.version p.last (keep (λ (h : LedgerObject). number_of h isnt n) p.objects) p

-- "1, 3: nothing." "7: keys change by operation 7, from the ledger's signing key." 8: the data is the partition's table
unfoldable pub ledger_perform : Operation → Scope LedgerObject → Fields → Scope LedgerObject
ledger_perform (Read offset length) s x = s
ledger_perform (Write offset length) s x =
    with_partition (ledger_written (target_of x.cred x.req) offset x.payload s.partition) s
ledger_perform Look s x = s
ledger_perform Raise s x = with_partition (ledger_raised x.cred.object s.partition) s
ledger_perform (Create number size) s x = with_partition (ledger_created number size (placement_start (bare_scope s) size) s.partition) s
ledger_perform Delete s x = with_partition (ledger_deleted x.cred.object s.partition) s
ledger_perform (SetKey target) s x = with_keys (key_set target x s.keys) s
ledger_perform LoadTable s x = with_partition (with_needs (needs_at x.payload) s.partition) s

-- ---- "fed .. each call's frame, clock reading and row; nothing comes from the drive record"
pub record Fed : Type 0 where
  pub frame : List ℕ
  pub clock : ℕ
  pub row : ℕ

-- "Every call: the mark becomes the larger of itself and the clock reading."
unfoldable pub clocked : ℕ → Ledger → Ledger
clocked clock l = with_high_water (new_high_water l.high_water clock) l

-- "A refused call does no more. A grant then does as follows."
unfoldable pub feed : ℕ → Ledger → Fed → Ledger
feed M l c =
    let x = fields c.frame in
    let now = clocked c.clock l in
    cond (c.row is 0) (with_scope x.cred (ledger_perform (operation_of x) (ledger_scope M now x.cred) x) now) now

unfoldable pub ledger : ℕ → Ledger → List Fed → Ledger
ledger M l [] = l
ledger M l (c ∷ cs) = ledger M (feed M l c) cs
