-- The customer's demand 2 over the promises of the public calls: of any calls that keep these promises, and of nothing
-- else. Proved in proofs/: `demand2`. Letters as in Calls; s: drive and medium.
use Rattle.std.specs.Prelude.{◌≡◌, ◌↔◌, false, true, ◌++◌, ◌∷◌, List, ℕ, length}
use Rattle.std.proofs.Math.Option.{some}
use Rattle.lemmas.specs.RowTable.{clear, first_row, line}
use Rattle.sha256_block.specs.Padding.{PaddedMessage}
use Rattle.digest.specs.Hmac.{hmac}
use Rattle.rules.specs.declared.Object.{Object}
use Rattle.rules.specs.Client as rules
use Rattle.rules.specs.Drive as rules_drive
use Rattle.rules.specs.Drive.{Keys, refresh}
use Rattle.rules.specs.Frame.{covered, credential_at, CredentialFits, credential_length, fields, operation_of, request_at, starts_behind}
use Rattle.rules.specs.Gate as rules_gate
use Rattle.rules.specs.Operations.{credential_key, head_size, key_in, perform, result_length}
use Rattle.rules.specs.Needs.{default_need}
use Rattle.rules.specs.Rows.{group_bytes, low_level, row1, row7, row8, row9, rows, scope_rows}
use Rattle.rules.specs.Scope.{drive_scope, Scope}
use Rattle.wire.specs.Parse.{fields_of, frame_answer}
use Rattle.drive.specs.Chain.{CallMade, CallMet, DriveState, Granted}
use Rattle.drive.specs.View.{view}
use Rattle.reply_check.specs.Met.{place_after}
use Rattle.promises.specs.Calls.{
  build_gave,
  BuildKept,
  BuildMade,
  built_bytes,
  check_gave,
  CheckKept,
  CheckMade,
  format_gave,
  FormatKept,
  FormatMade,
  gate_gave,
  issued_bytes,
  issue_gave,
  IssueKept,
  IssueMade,
  reply_bytes,
}

-- ---- "The issuer writes the 36 bytes and returns the credential key"
-- the credential's slot has the key that its issuer was lent
abbrev pub SlotHas : Keys → IssueMade → Type 0
SlotHas keys i = key_in keys i.credential.partition i.credential.slot ≡ some i.slot_key

pub record Issues (i : IssueMade) : Type 0 where
  -- what it wrote is read as the credential that it was given, alone
  pub read : credential_at (issued_bytes i) 0 ≡ i.credential
  -- and, by the gate, at the start of any frame;
  pub cred : (rest : List ℕ) → (fields (issued_bytes i ++ rest)).cred ≡ i.credential
  -- and the key that it returned is the gate's credential key for that frame
  pub key : (keys : Keys) (rest : List ℕ) → SlotHas keys i
      → credential_key keys (fields (issued_bytes i ++ rest)) ≡ i.answer.key

-- ---- a frame that was built from what an issuer wrote and returned
pub record BuiltFrom (i : IssueMade) (b : BuildMade) : Type 0 where
  pub credential : b.credential ≡ issued_bytes i
  pub key : b.key ≡ i.answer.key

-- no scope whose slot has the key that the issuer was lent refuses it by row 8 or 9,
pub record Passes (i : IssueMade) (b : BuildMade) : Type 0 where
  pub set : (t : Scope Object) → SlotHas t.keys i → row8 t (fields (built_bytes b)).cred ≡ false
  pub digest : (t : Scope Object) → SlotHas t.keys i → row9 t (fields (built_bytes b)) ≡ false
  -- and of such a drive it gets a grant, or the first that applies of row 1, of row 7 by the partition's table, and of those
  -- from 10 on
  pub row : (s : DriveState) (c : CallMade) → CallMet s c → c.call.frame ≡ built_bytes b
      → SlotHas (view s.drive).tables.keys i
      → c.answer.row ≡ first_row (line 1 (row1 (view s.drive) s.medium)
      ∷ line 7 (row7 (drive_scope (refresh c.call.clock (view s.drive)) (fields (built_bytes b)).cred)
      (fields (built_bytes b)).cred (fields (built_bytes b)).req)
      ∷ scope_rows (drive_scope (refresh c.call.clock (view s.drive)) (fields (built_bytes b)).cred)
      (fields (built_bytes b)).cred (fields (built_bytes b)).req (fields (built_bytes b)).payload
      (group_bytes (drive_scope (refresh c.call.clock (view s.drive)) (fields (built_bytes b)).cred) (fields (built_bytes b)).cred s.medium)
      (length c.call.space))

-- ---- "What the builder writes, the gate reads as the same fields."
pub record ReadAsBuilt (b : BuildMade) : Type 0 where
  pub fields : fields (built_bytes b) ≡ record {
    cred = credential_at b.credential 0;
    req = request_at b.request 0;
    credential = b.credential;
    request = b.request;
    payload = b.payload;
    digest = hmac b.key (covered (request_at b.request 0).level b.credential b.request b.payload);
  }
  -- none of rows 2 to 6 refuses it: the gate's parse answers with these fields, and with the starts of the parts as the builder put
  -- them one behind the other;
  pub parsed : frame_answer (built_bytes b) ≡ fields_of (credential_at b.credential 0) (request_at b.request 0)
      (starts_behind (credential_length (credential_at b.credential 0)) (request_at b.request 0))
  -- nor row 7, where the operation needs what document 01's rule says
  pub level : low_level (default_need (request_at b.request 0).operation) (credential_at b.credential 0)
      (request_at b.request 0) ≡ false

-- ---- the reply's way back: a granted frame's reply, checked with the records and the key that the frame was built
-- from
pub record Replied (b : BuildMade) (s : DriveState) (c : CallMade) (k : CheckMade) : Type 0 where
  pub built : BuildKept b
  pub row : b.answer.row ≡ 0
  pub call : CallMet s c
  pub frame : c.call.frame ≡ built_bytes b
  pub granted : Granted c
  -- the key is the one that the gate has for the frame's credential
  pub key : b.key ≡ credential_key (view s.drive).tables.keys (fields c.call.frame)
  pub check : CheckKept k
  pub credential : k.credential ≡ b.credential
  pub request : k.request ≡ b.request
  pub same_key : k.key ≡ b.key
  pub reply : k.reply.now ≡ reply_bytes c

-- the check accepts it, and returns the operation's result, which is the part of the reply after its head
pub record Accepted (s : DriveState) (c : CallMade) (k : CheckMade) : Type 0 where
  pub row : k.row ≡ 0
  pub start : k.part.ref_ptr ≡ place_after k.reply head_size
  pub length : length k.part.now ≡ result_length (request_at k.request 0)
  pub result : k.part.now ≡ (perform (operation_of (fields c.call.frame))
      (drive_scope (refresh c.call.clock (view s.drive)) (fields c.call.frame).cred)
      (fields c.call.frame) s.medium).result

-- ---- all of demand 2
pub record AllOfDemand2 : Type 0 where
  -- "Every grant, refusal, reply and built frame is the one that document 01, FIPS 180-4 and RFC 2104 give":
  -- all that each call gives
  pub format : (f : FormatMade) → FormatKept f
      → format_gave f ≡ rules_drive.format f.medium f.first f.master f.drive
  pub gate : (s : DriveState) (c : CallMade) → CallMet s c
      → gate_gave c ≡ rules_gate.gate (view s.drive) s.medium c.call
  pub issue : (i : IssueMade) → IssueKept i → issue_gave i ≡ rules.issue i.credential i.slot_key i.space
  pub build : (b : BuildMade) → BuildKept b
      → build_gave b ≡ rules.build b.credential b.request b.payload b.key b.space
  pub check : (k : CheckMade) → CheckKept k
      → check_gave k ≡ rules.check k.credential k.request k.key k.reply.now
  -- the padding under each of their digests is FIPS 180-4's own, in its words and by the two cases of document 02, change 4
  pub padding : (m : List ℕ) → PaddedMessage m
  -- "The reply check returns the result as a part of the reply itself": in the same block, so far behind its start
  pub part : (k : CheckMade) → CheckKept k → k.part.ref_ptr ≡ place_after k.reply (check_gave k).start
  -- a grant exactly where no row applies
  pub granted : (s : DriveState) (c : CallMade) → CallMet s c
      → Granted c
      ↔ (clear (rows (view s.drive) s.medium c.call.frame c.call.clock c.call.space) ≡ true)
  -- what the issuer writes, the gate reads as the same fields, under the key that the issuer returns
  pub issued : (i : IssueMade) → IssueKept i → i.answer.row ≡ 0 → CredentialFits i.credential
      → Issues i
  pub passes : (i : IssueMade) (b : BuildMade) → IssueKept i → i.answer.row ≡ 0 → CredentialFits i.credential
      → BuildKept b → b.answer.row ≡ 0 → BuiltFrom i b
      → Passes i b
  -- "What the builder writes, the gate reads as the same fields."
  pub built : (b : BuildMade) → BuildKept b → b.answer.row ≡ 0 → ReadAsBuilt b
  -- and the gate's reply is accepted with the operation's result
  pub replied : (b : BuildMade) (s : DriveState) (c : CallMade) (k : CheckMade) → Replied b s c k → Accepted s c k
