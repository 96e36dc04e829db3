-- A frame that carries its right digest passes row 9, whatever HMAC gives: so the checker can compute a list of calls
-- without computing HMAC. Used by Worked.antt, Heads.antt, Areas.antt, Tables.antt and Groups.antt.
use mathlib.Core.Path.{◌∙◌, ◌≡◌, ap, refl, sym}
use mathlib.Core.Bool.{Bool, cond, false, not, true, true≢false}
use mathlib.Core.List.{[], ◌++◌, ◌∷◌, List, map}
use Prim.Native.Nat.{◌%◌, ◌+◌, min, suc, zero, ℕ}
use native.Mathlib.Nat.{suc_inj, suc-ne-zero}
use native.Mathlib.Omega.{arith}
use lib.ListN.{drop, get_or, length, replicate, take}
use borrow.Author.Tests.{ne_eqb}
use Rattle.lemmas.specs.BigEndian.{big_endian, digit, encode, number_at, read_all}
use Rattle.lemmas.specs.Lists.{change, every, find, keep, missing, pairs, part, same, some?, splice, update}
use Rattle.lemmas.specs.RowTable.{first_row, line, Row}
use Rattle.lemmas.specs.Same.{same_refl}
use Rattle.lemmas.specs.Tests.{◌is◌}
use Rattle.digest.specs.Hmac.{hmac}
use Rattle.digest.specs.DigestLaws.{length-hmac}
use Rattle.rules.specs.declared.Credential.{Credential}
use Rattle.rules.specs.declared.Object.{Object}
use Rattle.rules.specs.declared.Request.{Request}
use Rattle.rules.specs.BestFit.{best_fit, best_of, better, free, gaps, next, spot}
use Rattle.rules.specs.Client.{frame_of}
use Rattle.rules.specs.Demands.{after, answer, State, step}
use Rattle.rules.specs.Drive.{Drive, format, format_rows, refresh, same_entry, sound, sound_object, sound_partition}
use Rattle.rules.specs.declared.Operation.{Operation}
use Rattle.rules.specs.declared.Operation.TheVariants.{Create, Delete, LoadTable, Look, Raise, Read, SetKey, Write}
use Rattle.rules.specs.Frame.{
  covered,
  credential_at,
  credential_bytes,
  credential_length,
  entry,
  Fields,
  fields,
  memory_index,
  operation,
  operation_of,
  request_at,
  request_bytes,
  request_length,
  target_of,
}
use Rattle.rules.specs.Scope.{Scope, drive_scope}
use Rattle.rules.specs.Gate.{Answer, Call, gate, granted, after_refusal, refused, whole_answer}
use Rattle.rules.specs.Operations.{created, credential_key, deleted, digest_of, extent_bytes, extent_start, head, headed, key_in, key_put, key_set, named_object, new_key, object_of, placement, present_version, perform, raised, remember, reply, reply_length, sealed, signing, placement_start}
use Rattle.rules.specs.Group.{is_group_list, lists, members_in, rising}
use Rattle.rules.specs.Needs.{default_needs, good_needs, needs_at, need_under}
use Rattle.rules.specs.Rows.{drive_rows, frame_rows, need_of, row1, row10, row11, row12, row13, row14, row15, row16, row17, row18, row19, row20, row21, row22, row31, row32, row33, row34, row7, row8, row9, rows, scope_rows}

-- ---- the n bytes of a list, one by one: so that its length is seen without its being opened
unfoldable pub spread : ℕ → List ℕ → List ℕ
spread zero h = []
spread (suc n) h = get_or h 0 0 ∷ spread n (drop 1 h)

spread_all : (n : ℕ) (h : List ℕ) → length h ≡ n → spread n h ≡ h
unfolding spread
spread_all zero [] e = refl
spread_all zero (x ∷ xs) e = absurd (suc-ne-zero (length xs) e)
spread_all (suc n) [] e = absurd (suc-ne-zero n (sym e))
spread_all (suc n) (x ∷ xs) e = ap (λ (l : List ℕ). x ∷ l) (spread_all n xs (suc_inj e))

-- ---- a frame under the key of a slot: right, and with the first byte of its digest changed
unfoldable pub right_digest : List ℕ → Credential → Request → List ℕ → List ℕ
right_digest key c r payload =
    hmac (hmac key (credential_bytes c)) (covered r.level (credential_bytes c) (request_bytes r) payload)

unfoldable pub frame : List ℕ → Credential → Request → List ℕ → List ℕ
frame key c r payload = credential_bytes c ++ (request_bytes r ++ (payload ++ spread 32 (right_digest key c r payload)))

unfoldable pub wrong : List ℕ → List ℕ
wrong h = (get_or h 0 0 + 1) % 256 ∷ spread 31 (drop 1 h)

unfoldable pub forged : List ℕ → Credential → Request → List ℕ → List ℕ
forged key c r payload = credential_bytes c ++ (request_bytes r ++ (payload ++ wrong (right_digest key c r payload)))

-- the builder's frame
pub frame-built : (key : List ℕ) (c : Credential) (r : Request) (payload : List ℕ)
    → (request_at (request_bytes r) 0).level ≡ r.level
    → frame key c r payload ≡ frame_of (credential_bytes c) (request_bytes r) payload (hmac key (credential_bytes c))
unfolding frame frame_of right_digest
frame-built key c r payload e =
    rw (
      e,
      spread_all 32 (right_digest key c r payload)
          (length-hmac (hmac key (credential_bytes c))
          (covered r.level (credential_bytes c) (request_bytes r) payload)),
    )
    refl

-- ---- row 9 of both
pub right_passes : (h : List ℕ) → length h ≡ 32 → not (same (spread 32 h) h) ≡ false
right_passes h e = ap not (ap (λ (l : List ℕ). same l h) (spread_all 32 h e) ∙ same_refl h)

pub wrong_fails : (h : List ℕ) → length h ≡ 32 → not (same (wrong h) h) ≡ true
unfolding wrong same
wrong_fails [] e = refl
wrong_fails (x ∷ xs) e = rw (ne_eqb ((x + 1) % 256) x (λ k. omega arith)) refl

-- ---- the gate, with row 9's test given
abbrev answered : Bool → Row → Row
answered b r = cond (r.row is 9) (line 9 b) r

unfoldable pub gate_with : Bool → Drive → List ℕ → Call → Answer Drive
gate_with b d m c =
    let row = first_row (map (answered b) (rows d m c.frame c.clock c.space)) in
    let x = fields c.frame in
    let now = refresh c.clock d in
    cond (row is 0)
    (whole_answer x.cred now (granted (drive_scope now x.cred) m x c.space))
    (refused row (after_refusal row c.clock d) m c.space)

pub gate_with_lem : (b : Bool) (d : Drive) (m : List ℕ) (c : Call)
    → row9 (drive_scope (refresh c.clock d) (fields c.frame).cred) (fields c.frame) ≡ b → gate d m c ≡ gate_with b d m c
unfolding gate gate_with rows frame_rows drive_rows scope_rows
gate_with_lem b d m c e = ap (λ (b : Bool). gate_with b d m c) e

-- ---- lists of calls whose digests are known to be right or wrong
pub data TestCall : Type 0 where
  -- a call that rows 1 to 8 refuse, so that its digest is never looked at
  raw : Call → TestCall
  -- key of the slot, credential, request, data, clock reading, size of the reply space
  signed : List ℕ → Credential → Request → List ℕ → ℕ → ℕ → TestCall
  altered : List ℕ → Credential → Request → List ℕ → ℕ → ℕ → TestCall

unfoldable pub call_of : TestCall → Call
call_of (raw c) = c
call_of (signed key c r payload clock room) = record
    { frame = frame key c r payload; clock = clock; space = replicate room 9 }
call_of (altered key c r payload clock room) = record
    { frame = forged key c r payload; clock = clock; space = replicate room 9 }

unfoldable pub answer_with : State → TestCall → Answer Drive
answer_with s (raw c) = gate s.drive s.medium c
answer_with s (signed key c r payload clock room) =
    gate_with false s.drive s.medium (call_of (signed key c r payload clock room))
answer_with s (altered key c r payload clock room) =
    gate_with true s.drive s.medium (call_of (altered key c r payload clock room))

-- the digest is right where it is said to be, and wrong where it is said to be
unfoldable pub Known9 : State → TestCall → Type 0
Known9 s (raw c) = Unit {0}
Known9 s (signed key c r payload clock room) = row9
    (drive_scope (refresh clock s.drive) (fields (frame key c r payload)).cred) (fields (frame key c r payload)) ≡ false
Known9 s (altered key c r payload clock room) = row9
    (drive_scope (refresh clock s.drive) (fields (forged key c r payload)).cred) (fields (forged key c r payload)) ≡ true

pub answer_with_lem : (s : State) (v : TestCall) → Known9 s v → answer s (call_of v) ≡ answer_with s v
unfolding answer answer_with Known9 call_of
answer_with_lem s (raw c) k = refl
answer_with_lem s (signed key c r payload clock room) k =
    gate_with_lem false s.drive s.medium (call_of (signed key c r payload clock room)) k
answer_with_lem s (altered key c r payload clock room) k =
    gate_with_lem true s.drive s.medium (call_of (altered key c r payload clock room)) k

abbrev pub leaves : Answer Drive → State
leaves a = record { drive = a.drive; medium = a.medium }

unfoldable pub AllKnown9 : State → List TestCall → Type 0
AllKnown9 s [] = Unit {0}
AllKnown9 s (v ∷ vs) = Known9 s v × AllKnown9 (leaves (answer_with s v)) vs

-- what the gate says to a list of calls: of each row and length, and of a grant the first sixteen bytes of the reply
abbrev shows : Answer Drive → List ℕ
shows a = a.row ∷ a.length ∷ take (min 16 a.length) a.space

unfoldable pub said : State → List Call → List (List ℕ)
said s [] = []
said s (c ∷ cs) = shows (answer s c) ∷ said (step s c) cs

unfoldable pub said_with : State → List TestCall → List (List ℕ)
said_with s [] = []
said_with s (v ∷ vs) = shows (answer_with s v) ∷ said_with (leaves (answer_with s v)) vs

pub said_with_lem : (s : State) (vs : List TestCall) → AllKnown9 s vs → said s (map call_of vs) ≡ said_with s vs
unfolding said said_with AllKnown9 step
said_with_lem s [] k = refl
said_with_lem s (v ∷ vs) k =
    let e : answer s (call_of v) ≡ answer_with s v = answer_with_lem s v k.0 in
    (λ i. shows (e i) ∷ said (leaves (e i)) (map call_of vs))
    ∙ ap (λ (l : List (List ℕ)). shows (answer_with s v) ∷ l) (said_with_lem (leaves (answer_with s v)) vs k.1)

-- what a list of calls leaves
unfoldable pub run : State → List TestCall → State
run s [] = s
run s (v ∷ vs) = run (leaves (answer_with s v)) vs

pub after_with : (s : State) (vs : List TestCall) → AllKnown9 s vs → after s (map call_of vs) ≡ run s vs
unfolding after run AllKnown9 step
after_with s [] k = refl
after_with s (v ∷ vs) k =
    ap (λ (a : Answer Drive). after (leaves a) (map call_of vs)) (answer_with_lem s v k.0)
    ∙ after_with (leaves (answer_with s v)) vs k.1

-- the two facts, of the digest itself
pub pass : (key : List ℕ) (c : Credential) (r : Request) (payload : List ℕ)
    → not (same (spread 32 (right_digest key c r payload)) (right_digest key c r payload)) ≡ false
unfolding right_digest
pass key c r payload = right_passes (right_digest key c r payload)
    (length-hmac (hmac key (credential_bytes c)) (covered r.level (credential_bytes c) (request_bytes r) payload))

fail : (key : List ℕ) (c : Credential) (r : Request) (payload : List ℕ)
    → not (same (wrong (right_digest key c r payload)) (right_digest key c r payload)) ≡ true
unfolding right_digest
fail key c r payload = wrong_fails (right_digest key c r payload)
    (length-hmac (hmac key (credential_bytes c)) (covered r.level (credential_bytes c) (request_bytes r) payload))

-- of a whole list: where the drive has each call's key when the call comes, `digests vs` is what `AllKnown9` asks for
unfoldable pub Digest : TestCall → Type 0
Digest (raw c) = Unit {0}
Digest (signed key c r payload clock room) =
    not (same (spread 32 (right_digest key c r payload)) (right_digest key c r payload)) ≡ false
Digest (altered key c r payload clock room) =
    not (same (wrong (right_digest key c r payload)) (right_digest key c r payload)) ≡ true

unfoldable pub Digests : List TestCall → Type 0
Digests [] = Unit {0}
Digests (v ∷ vs) = Digest v × Digests vs

digest : (v : TestCall) → Digest v
unfolding Digest
digest (raw c) = tt
digest (signed key c r payload clock room) = pass key c r payload
digest (altered key c r payload clock room) = fail key c r payload

pub digests : (vs : List TestCall) → Digests vs
unfolding Digests
digests [] = tt
digests (v ∷ vs) = (digest v, digests vs)

-- ---- longer lists
pub known_append : (s : State) (vs ws : List TestCall) → AllKnown9 s vs → AllKnown9 (run s vs) ws → AllKnown9 s (vs ++ ws)
unfolding AllKnown9 run
known_append s [] ws k l = l
known_append s (v ∷ vs) ws k l = (k.0, known_append (leaves (answer_with s v)) vs ws k.1 l)

-- n calls, the number that each is made from going down
unfoldable pub times : ℕ → (ℕ → TestCall) → List TestCall
times zero f = []
times (suc n) f = f n ∷ times n f

pub known_times : (n : ℕ) (f : ℕ → TestCall) (Has : State → Type 0)
    → ((k : ℕ) (s : State) → Has s → Known9 s (f k))
    → ((k : ℕ) (s : State) → Has s → Has (leaves (answer_with s (f k))))
    → (s : State) → Has s → AllKnown9 s (times n f)
unfolding AllKnown9 times
known_times zero f Has g h s k = tt
known_times (suc n) f Has g h s k = (g n s k, known_times n f Has g h (leaves (answer_with s (f n))) (h n s k))

-- a call that sets no key leaves the keys
abbrev pub sets_a_key : Operation → Bool
sets_a_key (Read a b) = false
sets_a_key (Write a b) = false
sets_a_key Look = false
sets_a_key Raise = false
sets_a_key (Create a b) = false
sets_a_key Delete = false
sets_a_key (SetKey a) = true
sets_a_key LoadTable = false

keys_after_lem : (o : Operation) (s : Scope Object) (x : Fields) (m : List ℕ) → sets_a_key o ≡ false
    → (perform o s x m).scope.keys ≡ s.keys
unfolding perform
keys_after_lem (Read a b) s x m h = refl
keys_after_lem (Write a b) s x m h = refl
keys_after_lem Look s x m h = refl
keys_after_lem Raise s x m h = refl
keys_after_lem (Create a b) s x m h = refl
keys_after_lem Delete s x m h = refl
keys_after_lem (SetKey a) s x m h = absurd (true≢false h)
keys_after_lem LoadTable s x m h = refl

pub keys_with : (b : Bool) (d : Drive) (m : List ℕ) (c : Call) → sets_a_key (operation_of (fields c.frame)) ≡ false
    → (gate_with b d m c).drive.tables.keys ≡ d.tables.keys
unfolding gate_with granted refresh
keys_with b d m c h = go (row is 0) (row is 1)
  where
    row : ℕ
    row = first_row (map (answered b) (rows d m c.frame c.clock c.space))

    x : Fields
    x = fields c.frame

    now : Drive
    now = refresh c.clock d

    go : (z o : Bool)
        → (cond z (whole_answer x.cred now (granted (drive_scope now x.cred) m x c.space))
        (refused row (cond o d now) m c.space)).drive.tables.keys ≡ d.tables.keys
    go true o = keys_after_lem (operation_of x) (drive_scope now x.cred) x m h
    go false true = refl
    go false false = refl

-- ---- all that the gate computes with, HMAC apart: `unfolding opened` opens it
unfoldable pub opened : ℕ
unfolding part splice same every some? pairs keep update find change missing first_row number_at digit big_endian read_all
    encode credential_at credential_bytes credential_length request_at request_bytes request_length target_of fields covered operation entry memory_index sound_object
    sound_partition sound same_entry refresh format_rows format spot free next gaps better best_of best_fit key_in signing
    credential_key digest_of named_object object_of present_version extent_start extent_bytes placement placement_start head headed sealed
    reply reply_length raised created deleted new_key key_put key_set perform remember default_needs need_under needs_at
    good_needs members_in rising is_group_list lists need_of row1 row7 row8 row9 row10 row11 row12 row13 row14 row15 row16 row17 row18 row19 row20 row21 row31
    row32 row33 row34 row22 frame_rows drive_rows scope_rows rows granted gate answer step spread right_digest frame wrong forged gate_with
    call_of answer_with Known9 AllKnown9 said_with run times Digest Digests
opened = 0
