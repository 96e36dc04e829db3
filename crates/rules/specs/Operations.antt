-- Document 01, "Operations", and operation 8 of document 02: what a frame names, the operations' results and effects, and the
-- reply.
-- s: the frame's scope. x: its fields. c: the numbers of its credential. m: the medium.
use Rattle.std.specs.Prelude.{◌||◌, cond, List, [], ◌∷◌, ◌++◌, ℕ, ◌+◌, ◌*◌, length, get_or, replicate}
use Rattle.std.proofs.Math.Option
use Rattle.std.proofs.Math.Option.{Option, none, some}
use Rattle.lemmas.specs.Tests.{◌is◌, ◌isnt◌}
use Rattle.lemmas.specs.Lists.{part, splice, keep, update, find, change}
use Rattle.lemmas.specs.BigEndian.{big_endian}
use Rattle.digest.specs.Hmac.{hmac}
use Rattle.rules.specs.declared.Credential.{Credential}
use Rattle.rules.specs.declared.Request.{Request}
use Rattle.rules.specs.declared.Object.{Object}
use Rattle.rules.specs.declared.Entry.{Entry}
use Rattle.rules.specs.declared.Need.{Need}
use Rattle.rules.specs.declared.Operation.{Operation}
use Rattle.rules.specs.declared.Operation.TheVariants.{Read, Write, Look, Raise, Create, Delete, SetKey, LoadTable}
use Rattle.rules.specs.Frame.{Fields, covered, entry, digest_size, target_of}
use Rattle.rules.specs.Needs.{needs_at}
use Rattle.rules.specs.Drive.{Partition, partition_with, Key, Keys}
use Rattle.rules.specs.Scope.{Scope, with_partition, with_keys}
use Rattle.rules.specs.BestFit.{extent_step, best_fit}

-- ---- what a frame names
-- the key in a slot: "0 black, 1 gold, 2 partition key, 3 drive key, 4 master key"
unfoldable pub key_in : Keys → ℕ → ℕ → Key
key_in k p slot =
    get_or (get_or k.working0 p none ∷ get_or k.working1 p none ∷ get_or k.partition p none ∷ k.drive ∷ k.master
    ∷ []) slot none

unfoldable pub signing : Keys → Fields → List ℕ
signing k x = Option.get_or (key_in k x.cred.partition x.cred.slot) []

-- "Credential key = HMAC(key in that slot, the 36 bytes)"
unfoldable pub credential_key : Keys → Fields → List ℕ
credential_key k x = hmac (signing k x) x.credential

-- the digest that a frame must carry
unfoldable pub digest_of : Keys → Fields → List ℕ
digest_of k x = hmac (credential_key k x) (covered x.req.level x.credential x.request x.payload)

-- the object numbered n in the partition
unfoldable pub named_object : Scope Object → ℕ → Option Object
named_object s n = find Object.number n s.partition.objects

abbrev pub no_object : Object
no_object = record { number = 0; version = 0; size = 0; start = 0 }

unfoldable pub object_of : Scope Object → ℕ → Object
object_of s n = Option.get_or (named_object s n) no_object

-- its present version and its size: object 0 means the partition
unfoldable pub present_version : Scope Object → ℕ → ℕ
present_version s n = cond (n is 0) s.partition.version (object_of s n).version

abbrev pub size_of : Scope Object → ℕ → ℕ
size_of s n = cond (n is 0) s.quarter (object_of s n).size

-- where the quarter starts on the medium, where the object's area does, and the bytes of that area
abbrev pub quarter_start : Scope Object → Credential → ℕ
quarter_start s c = c.partition * s.quarter

unfoldable pub extent_start : Scope Object → Credential → ℕ → ℕ
extent_start s c n = quarter_start s c + (object_of s n).start

unfoldable pub extent_bytes : Scope Object → Credential → ℕ → List ℕ → List ℕ
extent_bytes s c n m = part m (extent_start s c n) (object_of s n).size

-- where a new area of so many bytes starts in its quarter
unfoldable pub placement : Scope Object → ℕ → Option ℕ
placement s size = best_fit extent_step s.quarter s.partition.objects size

unfoldable pub placement_start : Scope Object → ℕ → ℕ
placement_start s size = Option.get_or (placement s size) 0

-- the next version
abbrev pub next_version : {A : Type 0} → Partition A → ℕ
next_version p = p.last + 1

-- ---- how a partition and the keys change
-- 4. Raise: "object or partition gets the next version"
abbrev pub with_version : ℕ → Object → Object
with_version v a = record { number = a.number; version = v; size = a.size; start = a.start }

unfoldable pub raised : ℕ → Partition Object → Partition Object
raised n p =
    let v = next_version p in
    partition_with (cond (n is 0) v p.version) v (cond (n is 0) p.objects
    (change Object.number n (with_version v) p.objects)) p

-- 5. Create: "It gets the next version"
unfoldable pub created : ℕ → ℕ → ℕ → Partition Object → Partition Object
created number size start p =
    let v = next_version p in
    partition_with p.version v (p.objects ++ (record { number = number; version = v; size = size; start = start } ∷ []))
    p

-- 6. Delete: "the object goes"
unfoldable pub deleted : ℕ → Partition Object → Partition Object
deleted n p = partition_with p.version p.last (keep (λ (a : Object). a.number isnt n) p.objects) p

-- 7. Set key: "New key = HMAC(key in the signing slot, request and seed)"
unfoldable pub new_key : Keys → Fields → List ℕ
new_key k x = hmac (signing k x) (x.request ++ x.payload)

-- "Slot 4 sets the drive key, slot 3 partition A's key, slot 2 working key A (0 or 1)"
abbrev pub set_at : ℕ → List ℕ → List Key → List Key
set_at p new keys = update p (λ (old : Key). some new) keys

abbrev pub with_drive_key : List ℕ → Keys → Keys
with_drive_key new k = record {
  master = k.master;
  drive = some new;
  partition = k.partition;
  working0 = k.working0;
  working1 = k.working1;
}

abbrev pub with_partition_key : ℕ → List ℕ → Keys → Keys
with_partition_key p new k = record {
  master = k.master;
  drive = k.drive;
  partition = set_at p new k.partition;
  working0 = k.working0;
  working1 = k.working1;
}

abbrev pub with_working0 : ℕ → List ℕ → Keys → Keys
with_working0 p new k = record {
  master = k.master;
  drive = k.drive;
  partition = k.partition;
  working0 = set_at p new k.working0;
  working1 = k.working1;
}

abbrev pub with_working1 : ℕ → List ℕ → Keys → Keys
with_working1 p new k = record {
  master = k.master;
  drive = k.drive;
  partition = k.partition;
  working0 = k.working0;
  working1 = set_at p new k.working1;
}

unfoldable pub key_put : ℕ → ℕ → ℕ → List ℕ → Keys → Keys
key_put slot partition A new k =
    cond (slot is 4) (with_drive_key new k)
    (cond (slot is 3) (with_partition_key A new k)
    (cond (A is 0) (with_working0 partition new k) (with_working1 partition new k)))

unfoldable pub key_set : ℕ → Fields → Keys → Keys
key_set target x k = key_put x.cred.slot x.cred.partition target (new_key k x) k

-- 8. Load table (document 02, change 5): "Operation 8 .. loads it from 21 data bytes"
abbrev pub with_needs : {A : Type 0} → List Need → Partition A → Partition A
with_needs needs p = record { version = p.version; last = p.last; needs = needs; objects = p.objects }

-- ---- what an operation gives and leaves: its result, the scope and the medium
pub record Performed : Type 0 where
  pub result : List ℕ
  pub scope : Scope Object
  pub medium : List ℕ

abbrev pub performed : List ℕ → Scope Object → List ℕ → Performed
performed result s m = record { result = result; scope = s; medium = m }

-- operation by operation; 1 to 3 of the frame's target, which is a group's member or the credential's own object
unfoldable pub perform : Operation → Scope Object → Fields → List ℕ → Performed
-- 1. Read: "result the B bytes"
perform (Read offset length) s x m =
    performed (part m (extent_start s x.cred (target_of x.cred x.req) + offset) length) s m
-- 2. Write: the data replaces the object's bytes from A on; "Result empty"
perform (Write offset length) s x m =
    performed [] s (splice m (extent_start s x.cred (target_of x.cred x.req) + offset) x.payload)
-- 3. Look: "size (the quarter's for object 0) and version, four bytes each"
perform Look s x m =
    let n = target_of x.cred x.req in
    performed (big_endian 4 (size_of s n) ++ big_endian 4 (present_version s n)) s m
-- 4. Raise: "object or partition gets the next version; result that version in four bytes"
perform Raise s x m =
    performed (big_endian 4 (next_version s.partition)) (with_partition (raised x.cred.object s.partition) s) m
-- 5. Create: the area "is zeroed"; "result that version in four bytes"
perform (Create number size) s x m =
    performed (big_endian 4 (next_version s.partition))
    (with_partition (created number size (placement_start s size) s.partition) s)
    (splice m (quarter_start s x.cred + placement_start s size) (replicate size 0))
-- 6. Delete: "the object goes"; "Result empty"
perform Delete s x m = performed [] (with_partition (deleted x.cred.object s.partition) s) m
-- 7. Set key: "Result empty; lower keys keep their values"
perform (SetKey target) s x m = performed [] (with_keys (key_set target x s.keys) s) m
-- 8. Load table: the partition's table is the data's; "empty result"
perform LoadTable s x m = performed [] (with_partition (with_needs (needs_at x.payload) s.partition) s) m

-- "A grant enters (slot, holder, T, count)" and, by change 2 of document 02, the credential's object
unfoldable pub remember : Fields → List Entry → List Entry
remember x l = l ++ (entry x.cred x.req ∷ [])

-- ---- how long a result is
abbrev pub length_of : ℕ → ℕ → ℕ
length_of operation B = cond (operation is 1) B (cond (operation is 3) 8 (cond (operation is 4 || operation is 5) 4 0))

abbrev pub result_length : Request → ℕ
result_length r = length_of r.operation r.B

-- ---- "Reply: mark 4C 41, operation, level, result length (four bytes), result; at level 2, then HMAC .."
abbrev pub head_size : ℕ
head_size = 8

unfoldable pub head : Request → ℕ → List ℕ
head r n = 0x4c ∷ 0x41 ∷ r.operation ∷ r.level ∷ big_endian 4 n

unfoldable pub headed : Request → List ℕ → List ℕ
headed r result = head r (length result) ++ result

-- what a reply's digest is taken over: "credential, request, those 8 bytes and result"
abbrev pub reply_covered : List ℕ → List ℕ → List ℕ → List ℕ
reply_covered credential request headAndResult = credential ++ (request ++ headAndResult)

unfoldable pub sealed : Keys → Fields → List ℕ → List ℕ
sealed k x result =
    cond (x.req.level is 2) (hmac (credential_key k x)
    (reply_covered x.credential x.request (headed x.req result))) []

unfoldable pub reply : Keys → Fields → List ℕ → List ℕ
reply k x result = headed x.req result ++ sealed k x result

unfoldable pub reply_length : Request → ℕ
reply_length r = head_size + result_length r + cond (r.level is 2) digest_size 0
