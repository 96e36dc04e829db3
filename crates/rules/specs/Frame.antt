-- Document 01, "Credential, 36 bytes" and "Request, 28 bytes, and frame"; of document 02, change 6: a group's request, 32 bytes.
-- A part's mark tells which fields it has and how long it is, and where the parts of a frame start follows from that.
-- f: a frame's bytes. x: its fields. c, r: the numbers of a credential and of a request.
use Rattle.std.specs.Prelude.{◌≡◌, refl, Bool, cond, false, true, List, [], ◌∷◌, ◌++◌, ℕ, ◌+◌, ◌/◌, ◌%◌, ◌^◌, ◌≤◌, get_or, length}
use Rattle.std.proofs.Common.{ap, sym, ◌∙◌, add-zero, arith}
use Rattle.lemmas.specs.Tests.{◌under◌, ◌is◌, by_branches}
use Rattle.lemmas.specs.Lists.{part}
use Rattle.lemmas.specs.BigEndian.{
  AllFit,
  encode,
  layout_size,
  length-encode,
  number_left,
  number_right,
  number_at,
  read-encode,
  read_left,
  read_right,
  read_all,
}
use Rattle.rules.specs.declared.Credential.{Credential}
use Rattle.rules.specs.declared.Request.{Request}
use Rattle.rules.specs.declared.PartStarts.{PartStarts}
use Rattle.rules.specs.declared.Entry.{Entry}
use Rattle.rules.specs.declared.Operation.{Operation}
use Rattle.rules.specs.declared.Operation.TheVariants.{Read, Write, Look, Raise, Create, Delete, SetKey, LoadTable}

-- ---- the lengths of a digest and of a key
abbrev pub digest_size : ℕ
digest_size = 32

abbrev pub key_size : ℕ
key_size = 32

-- ---- the credential: its mark (`magic`), and its fields' widths in bytes, in their order, so that they start at 0, 2, 3, 4, 8,
-- 12, 14, 15, 16, 20, 24 and 32. `zero` is the document's byte 15
abbrev pub credential_magic : ℕ
credential_magic = 0x4c43

abbrev pub credential_widths : List ℕ
credential_widths = 2 ∷ 1 ∷ 1 ∷ 4 ∷ 4 ∷ 2 ∷ 1 ∷ 1 ∷ 4 ∷ 4 ∷ 8 ∷ 4 ∷ []

abbrev pub credential_size : ℕ
credential_size = 36

-- how long a credential is, by its mark: of one form so far
unfoldable pub credential_length : Credential → ℕ
credential_length c = credential_size

abbrev pub credential_numbers : Credential → List ℕ
credential_numbers c =
    c.magic ∷ c.partition ∷ c.slot ∷ c.object ∷ c.version ∷ c.rights
    ∷ c.least ∷ c.zero ∷ c.first ∷ c.end ∷ c.expiry ∷ c.holder ∷ []

-- the credential of those numbers, 0 where there are too few
abbrev pub credential_of : List ℕ → Credential
credential_of v = record {
  magic = get_or v 0 0;
  partition = get_or v 1 0;
  slot = get_or v 2 0;
  object = get_or v 3 0;
  version = get_or v 4 0;
  rights = get_or v 5 0;
  least = get_or v 6 0;
  zero = get_or v 7 0;
  first = get_or v 8 0;
  end = get_or v 9 0;
  expiry = get_or v 10 0;
  holder = get_or v 11 0;
}

-- the one at place i of s, and its bytes
unfoldable pub credential_at : List ℕ → ℕ → Credential
credential_at s i = credential_of (read_all s i credential_widths)

unfoldable pub credential_bytes : Credential → List ℕ
credential_bytes c = encode credential_widths (credential_numbers c)

-- each of its numbers is one of its field's width, as in every credential that the code holds
abbrev pub CredentialFits : Credential → Type 0
CredentialFits c = AllFit credential_widths (credential_numbers c)

-- "bit k, counted from the lowest"
abbrev pub bit : ℕ → ℕ → Bool
bit k n = n / 2 ^ k % 2 is 1

-- "Rights bit 7 .. marks a group credential."
abbrev pub is_group_credential : Credential → Bool
is_group_credential c = bit 7 c.rights

-- ---- the request, in the same way: its fields start at 0, 2, 3, 4, 12, 16, 20 and 24.
-- That of a group credential "has mark 4C 47 and the member's number in four more bytes at its end, so 32 bytes"
abbrev pub request_magic : ℕ
request_magic = 0x4c52

abbrev pub group_magic : ℕ
group_magic = 0x4c47

abbrev pub is_group_request : Request → Bool
is_group_request r = r.magic is group_magic

abbrev pub plain_widths : List ℕ
plain_widths = 2 ∷ 1 ∷ 1 ∷ 8 ∷ 4 ∷ 4 ∷ 4 ∷ 4 ∷ []

abbrev pub group_widths : List ℕ
group_widths = 2 ∷ 1 ∷ 1 ∷ 8 ∷ 4 ∷ 4 ∷ 4 ∷ 4 ∷ 4 ∷ []

abbrev pub request_size : ℕ
request_size = 28

abbrev pub group_request_size : ℕ
group_request_size = 32

-- its widths and its length, by its mark
abbrev pub request_widths : ℕ → List ℕ
request_widths magic = cond (magic is group_magic) group_widths plain_widths

unfoldable pub request_length : Request → ℕ
request_length r = cond (is_group_request r) group_request_size request_size

abbrev pub request_numbers : Request → List ℕ
request_numbers r =
    r.magic ∷ r.operation ∷ r.level ∷ r.time ∷ r.count ∷ r.A ∷ r.B ∷ r.n
    ∷ cond (is_group_request r) (r.member ∷ []) []

-- the request of those numbers, 0 where there are too few: a request without a member has 0 there
abbrev pub request_of : List ℕ → Request
request_of v = record {
  magic = get_or v 0 0;
  operation = get_or v 1 0;
  level = get_or v 2 0;
  time = get_or v 3 0;
  count = get_or v 4 0;
  A = get_or v 5 0;
  B = get_or v 6 0;
  n = get_or v 7 0;
  member = get_or v 8 0;
}

-- the one at place i of s, whose first two bytes are its mark, and its bytes
unfoldable pub request_at : List ℕ → ℕ → Request
request_at s i = request_of (read_all s i (request_widths (number_at s i 2)))

unfoldable pub request_bytes : Request → List ℕ
request_bytes r = encode (request_widths r.magic) (request_numbers r)

-- each of its numbers is one of its field's width, and one that it has no field for is 0
pub record RequestFits (r : Request) : Type 0 where
  pub fields : AllFit (request_widths r.magic) (request_numbers r)
  pub member : is_group_request r ≡ false → r.member ≡ 0

-- ---- a frame: credential, request, n data bytes, digest. Where the parts start behind a credential of k bytes,
-- and how long the frame is
abbrev pub starts_behind : ℕ → Request → PartStarts
starts_behind k r = record { request = k; payload = k + request_length r; digest = k + request_length r + r.n }

abbrev pub frame_length : ℕ → Request → ℕ
frame_length k r = (starts_behind k r).digest + digest_size

-- a frame's own
abbrev pub request_start : List ℕ → ℕ
request_start f = credential_length (credential_at f 0)

abbrev pub frame_request : List ℕ → Request
frame_request f = request_at f (request_start f)

abbrev pub part_starts : List ℕ → PartStarts
part_starts f = starts_behind (request_start f) (frame_request f)

-- the numbers of its credential and its request, and its four parts
pub record Fields : Type 0 where
  pub cred : Credential
  pub req : Request
  pub credential : List ℕ
  pub request : List ℕ
  pub payload : List ℕ
  pub digest : List ℕ

unfoldable pub fields : List ℕ → Fields
fields f = record {
  cred = credential_at f 0;
  req = frame_request f;
  credential = part f 0 (request_start f);
  request = part f (request_start f) (request_length (frame_request f));
  payload = part f (part_starts f).payload (frame_request f).n;
  digest = part f (part_starts f).digest digest_size;
}

-- "The digest is HMAC under the credential key over credential and request, and the data too from level 1": what it
-- is taken over
unfoldable pub covered : ℕ → List ℕ → List ℕ → List ℕ → List ℕ
covered level credential request payload = cond (level is 0) (credential ++ request)
    (credential ++ (request ++ payload))

-- ---- operations 1 to 8, each with its own arguments out of A and B; the last one's is its data (document 02, change 5)
abbrev pub operations : Request → List Operation
operations r =
    Read r.A r.B ∷ Write r.A r.B ∷ Look ∷ Raise ∷ Create r.A r.B ∷ Delete ∷ SetKey r.A
    ∷ LoadTable ∷ []

-- row 4 refuses any other byte; that this is total, such a byte is read as a look, which changes nothing
unfoldable pub operation : Request → Operation
operation r = get_or (Look ∷ operations r) r.operation Look

-- the operation that a frame asks for
abbrev pub operation_of : Fields → Operation
operation_of x = operation x.req

-- ---- whose bytes a frame reads, writes or looks at: the member's, under a group credential, or those of the credential's own
-- object, 0 meaning the partition. "range, size, result and the granted writes that a read shows are the member's"
unfoldable pub target_of : Credential → Request → ℕ
target_of c r = cond (is_group_request r) r.member c.object

-- ---- the nonce: what a grant enters, and in which of the five memories.
-- "A grant enters (slot, holder, T, count)." Change 2 of document 02: "Each memory entry, and so row 12's nonce, has the
-- credential's object too." It is 0 for the partition; change 6: "The nonce's object is the group."
unfoldable pub entry : Credential → Request → Entry
entry c r = record { slot = c.slot; holder = c.holder; time = r.time; count = r.count; object = c.object }

-- "one for each partition (slots 0–2), a fifth for slots 3 and 4"
unfoldable pub memory_index : Credential → ℕ
memory_index c = cond (c.slot under 3) c.partition 4

-- ---- laws of both layouts: their lengths; what is written is read back; what is read are a part's own bytes
pub credential-size : layout_size credential_widths ≡ credential_size
unfolding layout_size
credential-size = refl

pub request-size : (magic : ℕ) → layout_size (request_widths magic) ≡ cond (magic is group_magic) group_request_size request_size
unfolding layout_size
request-size magic = go (magic is group_magic)
  where
    go : (b : Bool) → layout_size (cond b group_widths plain_widths) ≡ cond b group_request_size request_size
    go true = refl
    go false = refl

pub length-credential : (c : Credential) → length (credential_bytes c) ≡ credential_size
unfolding credential_bytes
length-credential c = length-encode credential_widths (credential_numbers c) ∙ credential-size

pub length-request : (r : Request) → length (request_bytes r) ≡ request_length r
unfolding request_bytes request_length
length-request r = length-encode (request_widths r.magic) (request_numbers r) ∙ request-size r.magic

pub credential-read_back : (c : Credential) (p q : List ℕ) → CredentialFits c
    → credential_at (p ++ (credential_bytes c ++ q)) (length p) ≡ c
unfolding credential_at credential_bytes
credential-read_back c p q fit = ap credential_of (read-encode credential_widths (credential_numbers c) p q fit)

-- a request's mark is the first of its numbers, and so it is read by its own form
pub request_by : (s : List ℕ) (i magic : ℕ) → number_at s i 2 ≡ magic → request_at s i ≡ request_of (read_all s i (request_widths magic))
unfolding request_at
request_by s i magic e = ap (λ (m : ℕ). request_of (read_all s i (request_widths m))) e

first_read : (s : List ℕ) (i : ℕ) (b : Bool) → get_or (read_all s i (cond b group_widths plain_widths)) 0 0 ≡ number_at s i 2
unfolding read_all
first_read s i true = refl
first_read s i false = refl

pub request_magic_lem : (s : List ℕ) (i : ℕ) → (request_at s i).magic ≡ number_at s i 2
unfolding request_at
request_magic_lem s i = first_read s i (number_at s i 2 is group_magic)

own-numbers : (r : Request) → (is_group_request r ≡ false → r.member ≡ 0) → request_of (request_numbers r) ≡ r
own-numbers r none = go (is_group_request r) none
  where
    go : (b : Bool) → (b ≡ false → r.member ≡ 0)
        → request_of (r.magic ∷ r.operation ∷ r.level ∷ r.time ∷ r.count ∷ r.A ∷ r.B ∷ r.n ∷ cond b (r.member ∷ []) []) ≡ r
    go true h = refl
    go false h = rw (h refl) refl

pub request-read_back : (r : Request) (p q : List ℕ) → RequestFits r → request_at (p ++ (request_bytes r ++ q)) (length p) ≡ r
unfolding request_bytes
request-read_back r p q fit =
    let s : List ℕ = p ++ (encode (request_widths r.magic) (request_numbers r) ++ q) in
    let read : read_all s (length p) (request_widths r.magic) ≡ request_numbers r =
    read-encode (request_widths r.magic) (request_numbers r) p q fit.fields in
    let mark : number_at s (length p) 2 ≡ r.magic =
    sym (first_read s (length p) (is_group_request r)) ∙ ap (λ (v : List ℕ). get_or v 0 0) read in
    request_by s (length p) r.magic mark ∙ ap request_of read ∙ own-numbers r fit.member

pub credential_in-front : (p q : List ℕ) → credential_size ≤ length p → credential_at (p ++ q) 0 ≡ credential_at p 0
unfolding credential_at layout_size
credential_in-front p q h = ap credential_of (read_left p q 0 credential_widths h)

-- how long the request at place i is, by its layout
pub request_widths_lem : (s : List ℕ) (i : ℕ) → layout_size (request_widths (number_at s i 2)) ≡ request_length (request_at s i)
unfolding request_length
request_widths_lem s i = rw (request_magic_lem s i) (request-size (number_at s i 2))

pub request-least : (r : Request) → request_size ≤ request_length r
unfolding request_length
request-least r = by_branches (λ (n : ℕ). request_size ≤ n) (is_group_request r) (omega arith) (omega arith)

pub request_most : (r : Request) → request_length r ≤ group_request_size
unfolding request_length
request_most r = by_branches (λ (n : ℕ). n ≤ group_request_size) (is_group_request r) (omega arith) (omega arith)

pub request_behind : (p q rest : List ℕ) (i : ℕ) → length p ≡ i → request_length (request_at q 0) ≤ length q
    → request_at (p ++ (q ++ rest)) i ≡ request_at q 0
request_behind p q rest i h l =
    let s : List ℕ = p ++ (q ++ rest) in
    let m : ℕ = number_at q 0 2 in
    let all : layout_size (request_widths m) ≤ length q = rw (request_widths_lem q 0) l in
    let two : 2 ≤ length q = omega (arith, request-least (request_at q 0)) in
    let mark : number_at s i 2 ≡ m = rw (add-zero i) at (number_right p (q ++ rest) i 0 2 h) ∙ number_left q rest 0 2 two in
    let read : read_all s i (request_widths m) ≡ read_all q 0 (request_widths m) =
    rw (add-zero i) at (read_right p (q ++ rest) i 0 (request_widths m) h) ∙ read_left q rest 0 (request_widths m) (omega (arith, all)) in
    request_by s i m mark ∙ ap request_of read ∙ sym (request_by q 0 m refl)
