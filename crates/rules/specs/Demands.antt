-- The customer's demands 1 to 3, as statements about the gate of Gate.antt and the ledger of Ledger.antt.
-- Proved in proofs/: `exact`, `demand1`, `demand2`, `demand3`.
-- d: a drive. m: a medium. c: a call. s: drive and medium. l: a ledger.
use Rattle.std.specs.Prelude.{◌≡◌, ◌↔◌, ◌⊎◌, false, true, ◌*◌, ◌+◌, ◌<◌, ◌≤◌, ℕ, get_or, take, length}
use Rattle.std.proofs.Math.Option.{some}
use mathlib.Core.List.{[], ◌++◌, ◌∷◌, List, Memᴰ}
use Rattle.lemmas.specs.Lists.{keep, part}
use Rattle.lemmas.specs.RowTable.{clear, first_row, line}
use Rattle.rules.specs.declared.Credential.{Credential}
use Rattle.rules.specs.declared.Entry.{Entry}
use Rattle.rules.specs.declared.Object.{Object}
use Rattle.rules.specs.Client.{build, Built, check, frame_of, issue}
use Rattle.digest.specs.Hmac.{hmac}
use Rattle.rules.specs.Needs.{default_need}
use Rattle.rules.specs.Drive.{Drive, format, Keys, lives, partition_at, quarter, refresh, sound}
use Rattle.rules.specs.declared.Operation.{Operation}
use Rattle.rules.specs.declared.Operation.TheVariants.{Read}
use Rattle.rules.specs.Frame.{covered, credential_at, credential_bytes, CredentialFits, credential_size, Fields, operation_of, request_at, memory_index, fields, entry}
use Rattle.rules.specs.Gate.{Answer, Call, gate, granted, whole_answer}
use Rattle.rules.specs.Ledger.{
  bare_scope,
  bytes_of,
  clocked,
  Fed,
  LedgerObject,
  Ledger,
  ledger,
  ledger_group,
  ledger_scope,
  tables_of,
  ledger_start,
}
use Rattle.rules.specs.Operations.{credential_key, head_size, key_in, result_length, perform}
use Rattle.rules.specs.Scope.{drive_scope, Scope}
use Rattle.rules.specs.Rows.{bounds, frame_rows, gate_rows, group_bytes, low_level, row1, row7, row8, row9, rows, scope_rows}

-- ---- the gate grants exactly when no row applies, and a grant is the one that the rules give
pub record Exact (d : Drive) (m : List ℕ) (c : Call) : Type 0 where
  pub grants : ((gate d m c).row ≡ 0) ↔ (clear (rows d m c.frame c.clock c.space) ≡ true)
  pub grant : (gate d m c).row ≡ 0 → gate d m c ≡ whole_answer (fields c.frame).cred (refresh c.clock d)
      (granted (drive_scope (refresh c.clock d) (fields c.frame).cred) m (fields c.frame) c.space)
  -- and the row returned is the first that applies
  pub row : (gate d m c).row ≡ first_row (rows d m c.frame c.clock c.space)

-- ---- demand 1
-- "in the drive it moves only the time mark and drops entries that the mark has outlived": e is d but for these
pub record MarkAndOutlived (d e : Drive) : Type 0 where
  pub size : e.size ≡ d.size
  pub keys : e.tables.keys ≡ d.tables.keys
  pub partitions : e.tables.partitions ≡ d.tables.partitions
  pub mark : d.tables.high_water ≤ e.tables.high_water
  -- each memory is as it was, or as it was without the entries that the new mark has outlived
  pub memories : (k : ℕ)
      → (get_or e.memories k [] ≡ get_or d.memories k [])
      ⊎ (get_or e.memories k [] ≡ keep (lives e.tables.high_water) (get_or d.memories k []))

pub record Demand1 (d : Drive) (m : List ℕ) (c : Call) : Type 0 where
  -- "gets a grant or one row number from document 01"; document 02 adds its own
  pub row : ((gate d m c).row ≡ 0) ⊎ Memᴰ (gate d m c).row gate_rows
  -- "A refusal writes no byte of the reply space or the medium"
  pub length : ((gate d m c).row ≡ 0 → ⊥) → (gate d m c).length ≡ 0
  pub space : ((gate d m c).row ≡ 0 → ⊥) → (gate d m c).space ≡ c.space
  pub medium : ((gate d m c).row ≡ 0 → ⊥) → (gate d m c).medium ≡ m
  pub drive : ((gate d m c).row ≡ 0 → ⊥) → MarkAndOutlived d (gate d m c).drive
  -- row 1: "it comes back unchanged, mark included"
  pub unchanged : (gate d m c).row ≡ 1 → (gate d m c).drive ≡ d
  -- any other row: the drive with the mark that this call sets, in each memory exactly the entries that it has not outlived
  pub refreshed : ((gate d m c).row ≡ 0 → ⊥) → ((gate d m c).row ≡ 1 → ⊥) → (gate d m c).drive ≡ refresh c.clock d

-- ---- demand 2: "Every grant, refusal, reply and built frame is the one that document 01 .. give." What the gate grants and what it refuses
-- is `Exact`; here is the way of a frame from the issuer to the reply check.
-- "The issuer writes the 36 bytes and returns the credential key": of a credential c that it took, with the key of c's slot
pub record IssuesBack (c : Credential) (slot_key space : List ℕ) : Type 0 where
  -- it wrote c's 36 bytes,
  pub bytes : take credential_size (issue c slot_key space).space ≡ credential_bytes c
  -- which are read as c, alone
  pub read : credential_at (credential_bytes c) 0 ≡ c
  -- and, by the gate, at the start of any frame;
  pub cred : (rest : List ℕ) → (fields (credential_bytes c ++ rest)).cred ≡ c
  -- and it returned that frame's credential key, wherever c's slot has the key that the issuer was lent
  pub key : (keys : Keys) (rest : List ℕ) → key_in keys c.partition c.slot ≡ some slot_key
      → credential_key keys (fields (credential_bytes c ++ rest)) ≡ (issue c slot_key space).key

-- a frame under such a credential and key: wherever c's slot has the key that the issuer was lent, rows 8 and 9 do not refuse it,
pub record Authentic (c : Credential) (slot_key frame : List ℕ) : Type 0 where
  pub set : (s : Scope Object) → key_in s.keys c.partition c.slot ≡ some slot_key → row8 s (fields frame).cred ≡ false
  pub digest : (s : Scope Object) → key_in s.keys c.partition c.slot ≡ some slot_key → row9 s (fields frame) ≡ false
  -- and the gate's row is the first of row 1, of row 7 by the partition's table, and of those from 10 on that applies
  pub row : (d : Drive) (m : List ℕ) (call : Call) → call.frame ≡ frame
      → key_in d.tables.keys c.partition c.slot ≡ some slot_key
      → (gate d m call).row ≡ first_row (line 1 (row1 d m)
      ∷ line 7 (row7 (drive_scope (refresh call.clock d) (fields frame).cred) (fields frame).cred (fields frame).req)
      ∷ scope_rows (drive_scope (refresh call.clock d) (fields frame).cred) (fields frame).cred (fields frame).req
      (fields frame).payload (group_bytes (drive_scope (refresh call.clock d) (fields frame).cred) (fields frame).cred m)
      (length call.space))

-- "What the builder writes, the gate reads as the same fields."
-- the frame that a builder wrote: the first bytes of its space, as many as it says
abbrev pub built_frame : Built → List ℕ
built_frame b = take b.length b.space

pub record ReadsBack (credential request payload key space : List ℕ) : Type 0 where
  -- it is the document's frame
  pub frame : built_frame (build credential request payload key space) ≡ frame_of credential request payload key
  -- none of rows 2 to 6 refuses it,
  pub accepted : first_row (frame_rows (frame_of credential request payload key)
      (fields (frame_of credential request payload key))) ≡ 0
  -- nor row 7, where the operation needs what document 01's rule says
  pub level : low_level (default_need (request_at request 0).operation) (credential_at credential 0) (request_at request 0) ≡ false
  -- and its fields are the records', its parts theirs and the data
  pub fields : fields (frame_of credential request payload key) ≡ record {
    cred = credential_at credential 0;
    req = request_at request 0;
    credential = credential;
    request = request;
    payload = payload;
    digest = hmac key (covered (request_at request 0).level credential request payload);
  }

-- a grant's reply to a built frame is one that the reply check accepts, with the result of the operation
pub record RepliesBack (d : Drive) (m : List ℕ) (c : Call) (credential request key : List ℕ) : Type 0 where
  pub accepted : check credential request key (take (gate d m c).length (gate d m c).space) ≡ record {
    row = 0;
    start = head_size;
    length = result_length (request_at request 0);
    result = (perform (operation_of (fields c.frame)) (drive_scope (refresh c.clock d) (fields c.frame).cred)
        (fields c.frame) m).result;
  }

-- all of demand 2
pub record AllOfDemand2 : Type 0 where
  pub exact : (d : Drive) (m : List ℕ) (c : Call) → Exact d m c
  pub issued : (c : Credential) (slot_key space : List ℕ) → CredentialFits c
      → (issue c slot_key space).row ≡ 0
      → IssuesBack c slot_key space
  pub authentic : (c : Credential) (slot_key space request payload room : List ℕ) → CredentialFits c
      → (issue c slot_key space).row ≡ 0
      → (build (credential_bytes c) request payload (issue c slot_key space).key room).row ≡ 0
      → Authentic c slot_key (frame_of (credential_bytes c) request payload (issue c slot_key space).key)
  pub built : (credential request payload key space : List ℕ)
      → (build credential request payload key space).row ≡ 0
      → ReadsBack credential request payload key space
  pub replied : (d : Drive) (m : List ℕ) (c : Call) (credential request payload key space : List ℕ)
      → (build credential request payload key space).row ≡ 0
      → c.frame ≡ frame_of credential request payload key
      → (gate d m c).row ≡ 0
      → key ≡ credential_key d.tables.keys (fields c.frame)
      → RepliesBack d m c credential request key

-- ---- a list of calls: "Each call gets the drive that the last one returned and the medium as it left it"
pub record State : Type 0 where
  pub drive : Drive
  pub medium : List ℕ

unfoldable pub answer : State → Call → Answer Drive
answer s c = gate s.drive s.medium c

unfoldable pub step : State → Call → State
step s c = record { drive = (answer s c).drive; medium = (answer s c).medium }

unfoldable pub after : State → List Call → State
after s [] = s
after s (c ∷ cs) = after (step s c) cs

-- what those calls feed the ledger
unfoldable pub fed : State → List Call → List Fed
fed s [] = []
fed s (c ∷ cs) = record { frame = c.frame; clock = c.clock; row = (answer s c).row } ∷ fed (step s c) cs

-- ---- demand 3
-- "nonce memory, key slot, holder, time and count"; change 2 of document 02, which holds now: "What a list of grants never
-- repeats is then nonce memory, slot, holder, time, count and object together."
pub record Nonce : Type 0 where
  pub memory : ℕ
  pub entry : Entry

unfoldable pub nonce : Call → Nonce
nonce c = record { memory = memory_index (fields c.frame).cred; entry = entry (fields c.frame).cred (fields c.frame).req }

-- where an object of partition p lies on a medium of M bytes
abbrev pub extent_from : ℕ → ℕ → Object → ℕ
extent_from M p a = p * quarter M + a.start

abbrev pub extent_to : ℕ → ℕ → Object → ℕ
extent_to M p a = p * quarter M + a.start + a.size

-- a is an object of the drive's partition p
abbrev pub Has : State → ℕ → Object → Type 0
Has s p a = Memᴰ a (partition_at s.drive.tables p).objects

-- drive and medium, of M bytes, agree with the ledger
pub record Agrees (M : ℕ) (s : State) (l : Ledger) : Type 0 where
  -- the drive's M, and the medium's length
  pub size : s.drive.size ≡ M
  pub medium : length s.medium ≡ M
  -- mark, keys, versions, last versions given, operation tables, objects in the ledger's order
  pub tables : s.drive.tables ≡ tables_of l
  -- "each object's area of the medium holds its bytes in the ledger"
  pub bytes : (p : ℕ) (h : LedgerObject) → Memᴰ h (partition_at l p).objects
      → part s.medium (extent_from M p h.object) h.object.size ≡ h.bytes
  -- "each inside its own partition"
  pub inside : (p : ℕ) (a : Object) → Has s p a → (p < 4)
      × ((p * quarter M ≤ extent_from M p a) × (extent_to M p a ≤ (p + 1) * quarter M))
  -- "their areas disjoint": two objects, of two partitions or with two numbers
  pub disjoint : (p r : ℕ) (a b : Object) → Has s p a → Has s r b → (p ≡ r → a.number ≡ b.number → ⊥)
      → (extent_to M p a ≤ extent_from M r b) ⊎ (extent_to M r b ≤ extent_from M p a)
  -- and the record is sound, so that a partition's numbers are all different
  pub sound : sound s.drive ≡ true

-- a call's fields and operation; that it is granted after the calls before; and the ledger then
abbrev pub call_fields : Call → Fields
call_fields c = fields c.frame

abbrev pub call_operation : Call → Operation
call_operation c = operation_of (call_fields c)

abbrev pub Granted : State → List Call → Call → Type 0
Granted s before c = (answer (after s before) c).row ≡ 0

abbrev pub ledger_after_calls : ℕ → State → Ledger → List Call → Ledger
ledger_after_calls M s l before = ledger M l (fed s before)

-- all of demand 3, of the list `calls` put to the state s, whose medium has M bytes and whose ledger starts as l
pub record Demand3 (M : ℕ) (s : State) (l : Ledger) (calls : List Call) : Type 0 where
  -- "No two grants in the whole list share nonce memory, key slot, holder, time and count." Change 2 of document 02, which
  -- holds now and lets grants for two objects share these: "What a list of grants never repeats is then nonce memory, slot,
  -- holder, time, count and object together."
  pub no_repeat : (before between later : List Call) (c d : Call)
      → calls ≡ before ++ (c ∷ (between ++ (d ∷ later)))
      → Granted s before c
      → Granted s (before ++ (c ∷ between)) d
      → nonce c ≡ nonce d → ⊥
  -- "Each grant is within its credential's rights, expiry and .. range.
  -- It is under the key and .. the version that the format or earlier grants put there":
  -- rows 8–10 and 13–17, by the ledger before the call with the mark that this call sets.
  -- Change 5 of document 02: "a grant keeps to the table that earlier grants loaded, which the ledger holds too": row 7 as well.
  -- Change 6: "Demand 3 judges rows 32 to 34 as well", by the ledger's own bytes of the group
  pub kept : (before later : List Call) (c : Call)
      → calls ≡ before ++ (c ∷ later)
      → Granted s before c
      → let t = ledger_scope M (clocked c.clock (ledger_after_calls M s l before)) (call_fields c).cred in
      first_row (bounds (bare_scope t) (ledger_group t (call_fields c).cred) (call_fields c)) ≡ 0
  -- "Each granted read shows, for every byte,
  -- exactly the last granted write to it since that object's creation, or zero":
  -- after the reply's head, the bytes from A up to A + B of the ledger's object, under a group credential of the member
  pub shown : (before later : List Call) (c : Call) (A B : ℕ)
      → calls ≡ before ++ (c ∷ later)
      → Granted s before c
      → call_operation c ≡ Read A B
      → part (answer (after s before) c).space head_size B ≡ part (bytes_of (ledger_after_calls M s l before) (call_fields c)) A B
  -- "After every call the drive holds exactly the objects that the grants so far left,
  -- their areas disjoint and each inside its own partition."
  pub agrees : (before later : List Call) → calls ≡ before ++ later → Agrees M (after s before) (ledger_after_calls M s l before)

-- for every format that returned row 0 and every list of calls
abbrev pub AllOfDemand3 : Type 0
AllOfDemand3 =
    (medium : List ℕ) (F : ℕ) (master drive : List ℕ) (calls : List Call)
    → (format medium F master drive).row ≡ 0
    → Demand3 (length medium)
    (record { drive = (format medium F master drive).drive; medium = (format medium F master drive).medium })
    (ledger_start F master drive)
    calls
