-- What the code has of the Scope of a frame: the facts (of the memory two), the keys' bytes and the partition's
-- table; and what `admit` asks and promises of them.
-- x: the frame's fields. s: the facts. ks: the keys. t: the partition's table. l: the memory's entries.
-- m: the medium. f: the frame.
use Rattle.std.specs.Prelude.{◌≡◌, Bool, false, true, cond, List, ℕ, ◌*◌, ◌+◌, ◌≤◌, length, Result, Ok, Err}
use Rattle.std.proofs.Math.Option.{Option, some, get_or}
use Rattle.lemmas.specs.Tests.{◌is◌}
use Rattle.lemmas.specs.RowTable.{first_row}
use Rattle.rules.specs.declared.Credential.{Credential}
use Rattle.rules.specs.declared.Entry.{Entry}
use Rattle.rules.specs.declared.Object.{Object}
use Rattle.rules.specs.declared.Need.{Need}
use Rattle.rules.specs.declared.Operation.{Operation}
use Rattle.rules.specs.declared.PartStarts.{PartStarts}
use Rattle.rules.specs.declared.Request.{Request}
use Rattle.rules.specs.declared.refusal.Refusal.{Refusal}
use Rattle.rules.specs.Refusals.{refusal_row}
use Rattle.rules.specs.Frame.{digest_size, Fields, fields, part_starts}
use Rattle.rules.specs.Drive as rules
use Rattle.rules.specs.Drive.{quarter, largest_medium, most_entries, sound_partition}
use Rattle.rules.specs.Scope.{Scope}
use Rattle.rules.specs.Operations.{key_in, signing}
use Rattle.rules.specs.Needs.{need_under}
use Rattle.rules.specs.Rows.{drive_rows, low_level, row12, row31}
use Rattle.rules.specs.Gate.{Answer, refused, granted}
use Rattle.wire.specs.declared.ParsedRequest.{ParsedRequest}
use Rattle.wire.specs.Parse.{answer_of, frame_answer, numbers_of}
use Rattle.keyring.specs.Keys.{keys_size, keys_in, key_index}
use Rattle.state.specs.Table.{needs_in, table_size, partition_in}
use Rattle.judge.specs.declared.ScopeFacts.{ScopeFacts}
use Rattle.judge.specs.Judge.{object_or_none, present_version_in}
use Rattle.effect.specs.declared.GrantContext.{GrantContext}
use Rattle.effect.specs.Effect.{next_version_of}
use Rattle.partition.specs.Applied.{ChangeFits}
use Rattle.drive.specs.declared.admission.Granted.{Granted}

-- the Scope that they make
abbrev pub scope_from : ScopeFacts → List ℕ → List ℕ → List Entry → Scope Object
scope_from s ks t l = record {
  quarter = quarter s.size;
  high_water = s.highwater;
  keys = keys_in ks;
  partition = partition_in t;
  memory = l;
}

-- the answer to a frame that none of rows 1 to 6 refuses, of its scope, which has the new mark and no outlived entry
unfoldable pub scope_answer : Scope Object → List ℕ → Fields → List ℕ → Answer (Scope Object)
scope_answer s m x space =
    let row = first_row (drive_rows s m x space) in
    cond (row is 0) (granted s m x space) (refused row s m space)

-- where a grant works, of a medium of so many bytes: n is the number of the object that the frame reaches, `target` what it
-- names, `place` a new extent's
unfoldable pub grant_context : ℕ → rules.Partition Object → Credential → ℕ → Option Object → Option ℕ → GrantContext
grant_context size p c n target place = record {
  quarterstart = c.partition * quarter size;
  start = (object_or_none target).start;
  size = (object_or_none target).size;
  newstart = get_or place 0;
  looksize = cond (n is 0) (quarter size) (object_or_none target).size;
  version = present_version_in p.version n target;
  nextversion = next_version_of p.last;
}

-- these are where the parts of the frame f start, and it is as long as its parts together
pub record StartsHold (f : List ℕ) (starts : PartStarts) : Type 0 where
  pub places : starts ≡ part_starts f
  pub request : starts.request ≤ starts.payload
  pub payload : starts.payload ≤ starts.digest
  pub long : length f ≡ starts.digest + digest_size

-- the parse of the frame f gave these fields
pub record ParsedTo (f : List ℕ) (c : Credential) (request : ParsedRequest) : Type 0 where
  pub answer : answer_of (Ok (record { credential = c; request = request })) ≡ frame_answer f

-- what `admit` asks: the facts, the keys and a sound table, with the entries of a memory, of a medium and a parsed
-- frame
pub record AdmitRequires (s : ScopeFacts) (ks t : List ℕ) (l : List Entry) (m f : List ℕ) (c : Credential)
    (request : ParsedRequest) : Type 0 where
  pub parsed : ParsedTo f c request
  pub size : length m ≡ s.size
  pub small : s.size ≤ largest_medium
  pub sound : sound_partition (quarter s.size) (partition_in t) ≡ true
  pub short : length l ≤ most_entries
  pub replayed : row12 (scope_from s ks t l) c (numbers_of request) ≡ s.replayed
  pub held : length l ≡ s.held
  pub keys : length ks ≡ keys_size
  pub table : length t ≡ table_size

-- what `serve` asks beside it: the request's numbers r, what the operation needs, which is no more than the level, and whether
-- row 31 applies
pub record ServeRequires (s : ScopeFacts) (need : Need) (bad : Bool) (ks t : List ℕ) (l : List Entry) (m f : List ℕ)
    (c : Credential) (request : ParsedRequest) (r : Request) : Type 0 where
  pub admits : AdmitRequires s ks t l m f c request
  pub numbers : r ≡ numbers_of request
  pub needed : need ≡ need_under (needs_in t) c.slot r.operation
  pub level : low_level need c r ≡ false
  pub load : bad ≡ row31 r (fields f).payload

-- what an answer of `admit` says: row and reply length; and of a grant the index of its slot's key, and what it puts into its
-- partition's table: the next version, a new extent's start
pub record Outcome : Type 0 where
  pub row : ℕ
  pub length : ℕ
  pub key : ℕ
  pub nextversion : ℕ
  pub newstart : ℕ

abbrev pub outcome_of : Result Granted Refusal → Outcome
outcome_of (Ok g) =
    record { row = 0; length = g.length; key = g.key; nextversion = g.next_version; newstart = g.new_start }
outcome_of (Err refusal) = record { row = refusal_row refusal; length = 0; key = 0; nextversion = 0; newstart = 0 }

-- an outcome is the rules' answer to the frame f, of the scope s, the medium m and the reply space lent; and at a grant
-- the key in the frame's slot is set and its index found, and the next version and the new extent's start are those that operation o puts
-- into the table
pub record OutcomeMet (s : Scope Object) (m f lent : List ℕ) (o : Operation) (r : Outcome)
    (after replied : List ℕ) : Type 0 where
  pub row : r.row ≡ (scope_answer s m (fields f) lent).row
  pub length : r.length ≡ (scope_answer s m (fields f) lent).length
  pub medium : after ≡ (scope_answer s m (fields f) lent).medium
  pub space : replied ≡ (scope_answer s m (fields f) lent).space
  pub set : r.row ≡ 0
      → key_in s.keys (fields f).cred.partition (fields f).cred.slot ≡ some (signing s.keys (fields f))
  pub key : r.row ≡ 0 → r.key ≡ key_index (fields f).cred.slot (fields f).cred.partition
  pub fits : r.row ≡ 0 → ChangeFits o s r.nextversion r.newstart
