-- Document 02, change 6, of lists and of calls: which bytes are a group's list, and what holds of a frame that is granted through a
-- group. What a group object holds is in Group.antt, the rows in Rows.antt, what demand 3 and the story say of it in Demands.antt
-- and Story.antt. Proved in proofs/: `lists-read_back`, `only_lists`, `plain_frames`, `through_group`.
-- b: an object's bytes. ns: numbers. d: a drive. m: a medium. c: a call, or the numbers of a credential; r: of a request.
use Rattle.std.specs.Prelude.{◌≡◌, ◌↔◌, ◌||◌, false, true, ◌+◌, ◌<◌, ◌≤◌, ℕ, get_or, length, replicate}
use Rattle.std.proofs.Math.Option.{some}
use mathlib.Core.List.{[], ◌++◌, ◌∷◌, List, Memᴰ}
use Rattle.lemmas.specs.BigEndian.{AllFit, big_endian, encode}
use Rattle.rules.specs.declared.Credential.{Credential}
use Rattle.rules.specs.declared.Object.{Object}
use Rattle.rules.specs.declared.Operation.TheVariants.{Look}
use Rattle.rules.specs.declared.Request.{Request}
use Rattle.rules.specs.Demands.{call_fields, nonce}
use Rattle.rules.specs.Drive.{Drive, refresh}
use Rattle.rules.specs.Frame.{
  is_group_credential,
  is_group_request,
  request_length,
  request_size,
  target_of,
}
use Rattle.rules.specs.Gate.{Call, gate}
use Rattle.rules.specs.Group.{is_group_list, lists, member_size}
use Rattle.rules.specs.Operations.{named_object, perform}
use Rattle.rules.specs.Rows.{group_bytes, is_transfer, row32, row33, row34}
use Rattle.rules.specs.Scope.{drive_scope, Scope}

-- ---- "four-byte object numbers from 1, in strictly rising order, and no other byte": the bytes of such a list
unfoldable pub list_bytes : List ℕ → List ℕ
list_bytes ns = encode (replicate (length ns) member_size) ns

unfoldable pub RisingFrom : ℕ → List ℕ → Type 0
RisingFrom last [] = Unit {0}
RisingFrom last (n ∷ ns) = (last < n) × RisingFrom n ns

pub record Listing (ns : List ℕ) : Type 0 where
  pub rising : RisingFrom 0 ns
  pub fits : AllFit (replicate (length ns) member_size) ns

-- row 32 lets every such list pass, and its members are the numbers that were written
pub record ListReadBack (ns : List ℕ) : Type 0 where
  pub passes : is_group_list (list_bytes ns) ≡ true
  pub members : (n : ℕ) → (lists (list_bytes ns) n ≡ true) ↔ Memᴰ n ns

abbrev pub ListsReadBack : Type 0
ListsReadBack = (ns : List ℕ) → Listing ns → ListReadBack ns

-- and no other bytes
abbrev pub OnlyLists : Type 0
OnlyLists =
    (b : List ℕ) → ((k : ℕ) → get_or b k 0 < 256) → is_group_list b ≡ true → (ns : List ℕ) × (Listing ns × (b ≡ list_bytes ns))

-- ---- a frame without a group is what it was: no new row refuses it, and it reaches its credential's object
pub record Plain (c : Credential) (r : Request) : Type 0 where
  pub size : request_length r ≡ request_size
  pub target : target_of c r ≡ c.object
  pub list : (group : List ℕ) → row32 group r ≡ false
  pub listed : (group : List ℕ) → row33 group r ≡ false
  pub member : (s : Scope Object) → row34 s r ≡ false

abbrev pub PlainFrames : Type 0
PlainFrames = (c : Credential) (r : Request) → is_group_request r ≡ false → Plain c r

-- ---- a granted frame under a group credential, or with its request, of any drive and medium
-- what the call's frame sees of the drive
abbrev pub call_scope : Drive → Call → Scope Object
call_scope d c = drive_scope (refresh c.clock d) (call_fields c).cred

pub record Through (d : Drive) (m : List ℕ) (c : Call) : Type 0 where
  -- both are a group's: rights bit 7, and a request that "has mark 4C 47"; it reads, writes or looks
  pub credential : is_group_credential (call_fields c).cred ≡ true
  pub request : is_group_request (call_fields c).req ≡ true
  pub operation : (call_fields c).req.operation ≤ 3
  -- "Version is the group object's": the credential names an object, which has its version
  pub group : (a : Object) × ((named_object (call_scope d c) (call_fields c).cred.object ≡ some a)
      × (a.version ≡ (call_fields c).cred.version))
  -- the group's bytes are a list, the member is in it,
  pub list : is_group_list (group_bytes (call_scope d c) (call_fields c).cred m) ≡ true
  pub listed : lists (group_bytes (call_scope d c) (call_fields c).cred m) (call_fields c).req.member ≡ true
  -- and exists: it is what the frame reaches, within the credential's range and "size .. the member's"
  pub target : target_of (call_fields c).cred (call_fields c).req ≡ (call_fields c).req.member
  pub member : (a : Object) × (named_object (call_scope d c) (call_fields c).req.member ≡ some a)
      × (is_transfer (call_fields c).req ≡ true
      → ((call_fields c).cred.first ≤ (call_fields c).req.A)
      × (((call_fields c).req.A + (call_fields c).req.B ≤ (call_fields c).cred.end)
      × ((call_fields c).req.A + (call_fields c).req.B ≤ a.size)))
  -- "result .. the member's": a look shows the member's size and version
  pub look : (perform Look (call_scope d c) (call_fields c) m).result
      ≡ big_endian 4 member.0.size ++ big_endian 4 member.0.version
  -- "The nonce's object is the group."
  pub nonce : (nonce c).entry.object ≡ (call_fields c).cred.object

abbrev pub ThroughGroup : Type 0
ThroughGroup =
    (d : Drive) (m : List ℕ) (c : Call)
    → (gate d m c).row ≡ 0
    → (is_group_credential (call_fields c).cred || is_group_request (call_fields c).req) ≡ true
    → Through d m c
