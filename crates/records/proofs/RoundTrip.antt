-- Fields encoded and decoded again are the same fields; a record decoded and encoded again is the same bytes. From what the
-- calls promise alone. s: what is lent, a space to the encoders, a record to the decoders.
use mathlib.Core.Path.{◌≡◌, refl, sym, ap, ◌∙◌}
use mathlib.Core.Bool.{◌||◌, Bool, cond, false, true, true≢false}
use mathlib.Core.List.{List, [], ◌∷◌, ◌++◌, append-nil}
use Prim.Native.Nat.{ℕ, ◌<◌, ◌≤◌, ◌^◌}
use native.Mathlib.Omega.{arith}
use lib.Dec.{leb}
use lib.ListN.{get_or, length, length-append, take}
use lib.Seq.{take_all}
use borrow.Author.Tests.{eqb-true, le-leb, ltb-false, not-false}
use Rattle.lemmas.specs.Lists.{part, splice}
use Rattle.lemmas.specs.Parts.{splice_front}
use Rattle.lemmas.specs.Tests.{◌is◌, ◌isnt◌, ◌under◌, or_l, or_r}
use Rattle.lemmas.specs.BigEndian.{
  big_endian,
  encode,
  layout_size,
  length-big_endian,
  length-encode,
  number_of-bytes,
  number_at,
  read_all,
}
use Rattle.rules.specs.declared.Credential.{Credential}
use Rattle.rules.specs.declared.Request.{Request}
use Rattle.rules.specs.Frame as Frame
use Rattle.rules.specs.Frame.{
  credential-read_back,
  credential-size,
  credential_at,
  credential_bytes,
  credential_magic,
  credential_numbers,
  credential_size,
  credential_widths,
  group_magic,
  group_request_size,
  group_widths,
  length-request,
  plain_widths,
  request_magic_lem,
  request-read_back,
  request_widths_lem,
  request_at,
  request_bytes,
  request_length,
  request_magic,
  request_numbers,
  request_of,
  request_size,
  request_widths,
}
use Rattle.rules.proofs.BytesBack.{layout_written}
use Rattle.request_bytes.specs.Put.{request_put}
use Rattle.fields.specs.Records.{plain_member}
use Rattle.records.specs.declared.CredentialFields.{CredentialFields}
use Rattle.records.specs.declared.RequestFields.{RequestFields}
use Rattle.records.specs.declared.CredentialDecoded.{CredentialDecoded}
use Rattle.records.specs.declared.RequestDecoded.{RequestDecoded}
use Rattle.records.specs.declared.GroupRequestDecoded.{GroupRequestDecoded}
use Rattle.records.specs.Coding.{
  CredentialFits,
  GroupRequestFits,
  RequestFits,
  credential_decoded,
  credential_encoded,
  credential_fields,
  credential_from,
  credential_unmarked,
  encode_row,
  group_request_decoded,
  group_request_encoded,
  group_request_from,
  look_decoded,
  request_decoded,
  request_encoded,
  request_fields,
  request_from,
  request_unmarked,
  request_with,
  size_by,
  version_decoded,
}

-- ---- row 0 of an encoder: the space has room, and the record's bytes are at its start
room : (size : ℕ) (s : List ℕ) → encode_row size s ≡ 0 → size ≤ length s
room size s e = ltb-false (length s) size (go (length s under size) e)
  where
    go : (b : Bool) → ◌≡◌ {A = ℕ} (cond b 29 0) 0 → b ≡ false
    go true z = absurd (omega (arith, z))
    go false z = refl

at_start : (size : ℕ) (s new : List ℕ) → length new ≡ size → encode_row size s ≡ 0
    → take size (cond (leb size (length s)) (splice s 0 new) s) ≡ new
at_start size s new e z = rw (le-leb size (length s) (room size s z)) (splice_front s new size e)

-- ---- row 0 of a decoder: its test does not refuse
taken : {D : Type 0} (row : D → ℕ) (b : Bool) (x y : D) → row x ≡ 28 → row (cond b x y) ≡ 0 → b ≡ false
taken row true x y e z = absurd (omega (arith, e, z))
taken row false x y e z = refl

-- ---- the credential
credential-length : (c : Credential) → length (credential_bytes c) ≡ credential_size
unfolding credential_bytes
credential-length c = length-encode credential_widths (credential_numbers c) ∙ credential-size

credential-own : (c : CredentialFields) → CredentialFits c
    → credential_at (credential_bytes (credential_from c)) 0 ≡ credential_from c
credential-own c fit = rw (append-nil (credential_bytes (credential_from c))) at (credential-read_back (credential_from c) [] [] fit)

credential-bytes_decoded : (c : CredentialFields) → CredentialFits c
    → credential_decoded (credential_bytes (credential_from c)) ≡ record { row = 0; fields = c }
unfolding credential_decoded
credential-bytes_decoded c fit = rw (credential-length (credential_from c), credential-own c fit) refl

-- fields that were encoded are decoded
pub credential_decodes : (c : CredentialFields) (s : List ℕ) → CredentialFits c → encode_row credential_size s ≡ 0
    → credential_decoded (take credential_size (credential_encoded s c)) ≡ record { row = 0; fields = c }
credential_decodes c s fit z =
    ap credential_decoded (at_start credential_size s (credential_bytes (credential_from c)) (credential-length (credential_from c)) z)
    ∙ credential-bytes_decoded c fit

-- row 0 of the decoder: the length is right, and mark and zero byte are those that the encoder writes
from_fields : (c : Credential) → c.magic ≡ credential_magic → c.zero ≡ 0 → credential_from (credential_fields c) ≡ c
from_fields c m z = λ i. record {
  magic = sym m i;
  partition = c.partition;
  slot = c.slot;
  object = c.object;
  version = c.version;
  rights = c.rights;
  least = c.least;
  zero = sym z i;
  first = c.first;
  end = c.end;
  expiry = c.expiry;
  holder = c.holder;
}

credential-taken : (s : List ℕ) → (credential_decoded s).row ≡ 0
    → (length s ≡ credential_size) × (credential_from (credential_decoded s).fields ≡ credential_at s 0)
unfolding credential_decoded
credential-taken s z =
    let c : Credential = credential_at s 0 in
    let short : Bool = length s isnt credential_size in
    let t = taken CredentialDecoded.row (short || credential_unmarked c) _ _ refl z in
    let own = or_r short (credential_unmarked c) t in
    let m = or_l (c.magic isnt credential_magic) (c.zero isnt 0) own in
    let n = or_r (c.magic isnt credential_magic) (c.zero isnt 0) own in (
      eqb-true (length s) credential_size (not-false _ (or_l short (credential_unmarked c) t)),
      rw t (from_fields c (eqb-true c.magic credential_magic (not-false _ m)) (eqb-true c.zero 0 (not-false _ n))),
    )

credential-written : (s : List ℕ) → ((k : ℕ) → get_or s k 0 < 256) → length s ≡ credential_size
    → credential_bytes (credential_at s 0) ≡ s
unfolding credential_at credential_bytes layout_size part read_all
credential-written s bytes e =
    layout_written s bytes credential_widths 0 (omega (arith, e)) ∙ take_all credential_size s (omega (arith, e))

-- a record that was decoded is encoded as its own bytes
pub credential_encodes : (s space : List ℕ) → ((k : ℕ) → get_or s k 0 < 256) → (credential_decoded s).row ≡ 0
    → encode_row credential_size space ≡ 0
    → take credential_size (credential_encoded space (credential_decoded s).fields) ≡ s
credential_encodes s space bytes z y =
    let c : Credential = credential_from (credential_decoded s).fields in
    let t = credential-taken s z in
    at_start credential_size space (credential_bytes c) (credential-length c) y
    ∙ ap credential_bytes t.1
    ∙ credential-written s bytes t.0

-- ---- the request, in the same way: what holds of either form. magic: its mark, which tells its
-- length; other bytes a decoder refuses
abbrev refused : ℕ → List ℕ → Bool
refused magic s = length s isnt size_by magic || request_unmarked magic (request_at s 0)

-- what was written has its length, and is read back
request_put_lem : (q : Request) (s : List ℕ) → encode_row (request_length q) s ≡ 0
    → take (request_length q) (request_put s q) ≡ request_bytes q
request_put_lem q s z = at_start (request_length q) s (request_bytes q) (length-request q) z

request-own : (q : Request) → Frame.RequestFits q → request_at (request_bytes q) 0 ≡ q
request-own q fit = rw (append-nil (request_bytes q)) at (request-read_back q [] [] fit)

-- the numbers that are read are all of the request's, so that its bytes are those that it was read from
abbrev numbers_by : Bool → Request → List ℕ
numbers_by group r =
    r.magic ∷ r.operation ∷ r.level ∷ r.time ∷ r.count ∷ r.A ∷ r.B ∷ r.n ∷ cond group (r.member ∷ []) []

all_read : (s : List ℕ) (group : Bool)
    → let v = read_all s 0 (cond group group_widths plain_widths) in numbers_by group (request_of v) ≡ v
unfolding read_all
all_read s true = refl
all_read s false = refl

numbers-read : (s : List ℕ) → request_numbers (request_at s 0) ≡ read_all s 0 (request_widths (number_at s 0 2))
unfolding request_at
numbers-read s =
    ap (λ (m : ℕ). numbers_by (m is group_magic) (request_at s 0)) (request_magic_lem s 0) ∙ all_read s (number_at s 0 2 is group_magic)

request-written : (s : List ℕ) → ((k : ℕ) → get_or s k 0 < 256) → length s ≡ request_length (request_at s 0)
    → request_bytes (request_at s 0) ≡ s
unfolding request_bytes part
request-written s bytes e =
    let ws : List ℕ = request_widths (number_at s 0 2) in
    let long : layout_size ws ≡ length s = request_widths_lem s 0 ∙ sym e in
    (λ i. encode (request_widths (request_magic_lem s 0 i)) (numbers-read s i))
    ∙ layout_written s bytes ws 0 (omega (arith, long))
    ∙ take_all (layout_size ws) s (omega (arith, long))

-- so one whose length and mark are right is encoded as its own bytes
request_again : (s space : List ℕ) (magic member : ℕ) → ((k : ℕ) → get_or s k 0 < 256)
    → refused magic s ≡ false → ((request_at s 0).magic ≡ magic → (request_at s 0).member ≡ member)
    → encode_row (size_by magic) space ≡ 0
    → take (size_by magic) (request_put space (request_with magic (request_fields (request_at s 0)) member)) ≡ s
unfolding request_length
request_again s space magic member bytes t k y =
    let r : Request = request_at s 0 in
    let wrong : Bool = request_unmarked magic r in
    let l : length s ≡ size_by magic =
    eqb-true (length s) (size_by magic) (not-false _ (or_l (length s isnt size_by magic) wrong t)) in
    let m : r.magic ≡ magic = eqb-true r.magic magic (not-false _ (or_r (length s isnt size_by magic) wrong t)) in
    let own : request_with magic (request_fields r) member ≡ r = λ i. record {
      magic = sym m i;
      operation = r.operation;
      level = r.level;
      time = r.time;
      count = r.count;
      A = r.A;
      B = r.B;
      n = r.n;
      member = sym (k m) i;
    } in
    request_put_lem (request_with magic (request_fields r) member) space y
    ∙ ap request_bytes own
    ∙ request-written s bytes (l ∙ ap size_by (sym m))

-- ---- one of 28 bytes
pub request_decodes : (r : RequestFields) (s : List ℕ) → RequestFits r → encode_row request_size s ≡ 0
    → request_decoded (take request_size (request_encoded s r)) ≡ record { row = 0; fields = r }
unfolding request_decoded request_length
request_decodes r s fit z =
    let q : Request = request_from r in
    rw (request_put_lem q s z, length-request q, request-own q (record { fields = fit; member = λ e. refl })) refl

pub request_encodes : (s space : List ℕ) → ((k : ℕ) → get_or s k 0 < 256) → (request_decoded s).row ≡ 0
    → encode_row request_size space ≡ 0
    → take request_size (request_encoded space (request_decoded s).fields) ≡ s
unfolding request_decoded
request_encodes s space bytes z y =
    let t = taken RequestDecoded.row (refused request_magic s) _ _ refl z in
    rw t (request_again s space request_magic 0 bytes t (λ m. plain_member s 0 (rw m refl)) y)

-- ---- a group's, of 32
pub group-request_decodes : (r : RequestFields) (member : ℕ) (s : List ℕ) → GroupRequestFits r member
    → encode_row group_request_size s ≡ 0
    → group_request_decoded (take group_request_size (group_request_encoded s r member))
    ≡ record { row = 0; fields = r; member = member }
unfolding group_request_decoded request_length
group-request_decodes r member s fit z =
    let q : Request = group_request_from r member in
    rw (request_put_lem q s z, length-request q, request-own q (record { fields = fit; member = λ e. absurd (true≢false e) })) refl

pub group-request_encodes : (s space : List ℕ) → ((k : ℕ) → get_or s k 0 < 256) → (group_request_decoded s).row ≡ 0
    → encode_row group_request_size space ≡ 0
    → take group_request_size (group_request_encoded space (group_request_decoded s).fields (group_request_decoded s).member) ≡ s
unfolding group_request_decoded
group-request_encodes s space bytes z y =
    let t = taken GroupRequestDecoded.row (refused group_magic s) _ _ refl z in
    rw t (request_again s space group_magic (request_at s 0).member bytes t (λ m. refl) y)

-- ---- results: what operation 3 shows, and operations 4 and 5, is decoded as its numbers
pub look_decodes : (size version : ℕ) → size < 256 ^ 4 → version < 256 ^ 4
    → look_decoded (big_endian 4 size ++ big_endian 4 version) ≡ record { row = 0; size = size; version = version }
unfolding look_decoded
look_decodes size version h l =
    let a : List ℕ = big_endian 4 size in
    let b : List ℕ = big_endian 4 version in
    let long : length (a ++ b) ≡ 8 = omega (arith, length-append a b, length-big_endian 4 size, length-big_endian 4 version) in
    let first : number_at (a ++ b) 0 4 ≡ size = number_of-bytes 4 size [] b h in
    let second : number_at (a ++ b) 4 4 ≡ version =
    rw (append-nil b, length-big_endian 4 size) at (number_of-bytes 4 version a [] l) in
    rw (long, first, second) refl

pub version_decodes : (version : ℕ) → version < 256 ^ 4
    → version_decoded (big_endian 4 version) ≡ record { row = 0; version = version }
unfolding version_decoded
version_decodes version h =
    let own : number_at (big_endian 4 version) 0 4 ≡ version =
    rw (append-nil (big_endian 4 version)) at (number_of-bytes 4 version [] [] h) in
    rw (length-big_endian 4 version, own) refl
