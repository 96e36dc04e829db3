-- Document 01, "Credential, 36 bytes" and "Request, 28 bytes, and frame", and the request of a group credential (document 02,
-- change 6), as a C program has them: without what is the same in each, the marks and the credential's zero byte. And the results
-- that are numbers.
-- c: a credential's fields. r: a request's. s: the bytes lent.
use Rattle.std.specs.Prelude.{◌||◌, Bool, cond, List, [], ℕ, length, Result, Ok, Err}
use Rattle.lemmas.specs.Tests.{◌is◌, ◌isnt◌, ◌under◌}
use Rattle.lemmas.specs.BigEndian.{AllFit, number_at}
use Rattle.rules.specs.declared.Credential.{Credential}
use Rattle.rules.specs.declared.Request.{Request}
use Rattle.rules.specs.declared.refusal.Refusal.{Refusal}
use Rattle.rules.specs.declared.refusal.Refusal.TheVariants.{WrongRecord}
use Rattle.rules.specs.Frame.{
  credential_at,
  credential_magic,
  credential_numbers,
  credential_of,
  credential_size,
  credential_widths,
  group_magic,
  group_request_size,
  group_widths,
  plain_widths,
  request_at,
  request_magic,
  request_numbers,
  request_of,
  request_size,
}
use Rattle.credential_bytes.specs.Put.{credential_put}
use Rattle.request_bytes.specs.Put.{request_put}
use Rattle.records.specs.declared.CredentialFields.{CredentialFields}
use Rattle.records.specs.declared.RequestFields.{RequestFields}
use Rattle.records.specs.declared.CredentialDecoded.{CredentialDecoded}
use Rattle.records.specs.declared.RequestDecoded.{RequestDecoded}
use Rattle.records.specs.declared.GroupRequestDecoded.{GroupRequestDecoded}
use Rattle.records.specs.declared.LookDecoded.{LookDecoded}
use Rattle.records.specs.declared.VersionDecoded.{VersionDecoded}

-- ---- "0–1 mark 4C 43 .. 15 zero": the credential that has those fields
abbrev pub credential_from : CredentialFields → Credential
credential_from c = record {
  magic = credential_magic;
  partition = c.partition;
  slot = c.slot;
  object = c.object;
  version = c.version;
  rights = c.rights;
  least = c.least;
  zero = 0;
  first = c.first;
  end = c.end;
  expiry = c.expiry;
  holder = c.holder;
}

-- the fields that a credential has; zeros
abbrev pub credential_fields : Credential → CredentialFields
credential_fields c = record {
  expiry = c.expiry;
  object = c.object;
  version = c.version;
  first = c.first;
  end = c.end;
  holder = c.holder;
  rights = c.rights;
  partition = c.partition;
  slot = c.slot;
  least = c.least;
}

abbrev pub no_credential : CredentialFields
no_credential = credential_fields (credential_of [])

-- ---- the request of a mark that has those fields and that member
abbrev pub request_with : ℕ → RequestFields → ℕ → Request
request_with magic r member = record {
  magic = magic;
  operation = r.operation;
  level = r.level;
  time = r.time;
  count = r.count;
  A = r.a;
  B = r.b;
  n = r.n;
  member = member;
}

-- "0–1 mark 4C 52"; for a group credential "mark 4C 47 and the member's number"
abbrev pub request_from : RequestFields → Request
request_from r = request_with request_magic r 0

abbrev pub group_request_from : RequestFields → ℕ → Request
group_request_from r member = request_with group_magic r member

-- the fields that a request has; zeros
abbrev pub request_fields : Request → RequestFields
request_fields r = record {
  time = r.time;
  count = r.count;
  a = r.A;
  b = r.B;
  n = r.n;
  operation = r.operation;
  level = r.level;
}

abbrev pub no_request : RequestFields
no_request = request_fields (request_of [])

-- ---- fields within their widths, as every value of their C types is
abbrev pub CredentialFits : CredentialFields → Type 0
CredentialFits c = AllFit credential_widths (credential_numbers (credential_from c))

abbrev pub RequestFits : RequestFields → Type 0
RequestFits r = AllFit plain_widths (request_numbers (request_from r))

abbrev pub GroupRequestFits : RequestFields → ℕ → Type 0
GroupRequestFits r member = AllFit group_widths (request_numbers (group_request_from r member))

-- ---- encoders. 29. "the space lent is too short; it is untouched": the row, for a record of so many bytes
abbrev pub encode_row : ℕ → List ℕ → ℕ
encode_row size s = cond (length s under size) 29 0

-- and what the space then holds. "In any space written, later bytes keep their values"
abbrev pub credential_encoded : List ℕ → CredentialFields → List ℕ
credential_encoded s c = credential_put s (credential_from c)

abbrev pub request_encoded : List ℕ → RequestFields → List ℕ
request_encoded s r = request_put s (request_from r)

abbrev pub group_request_encoded : List ℕ → RequestFields → ℕ → List ℕ
group_request_encoded s r member = request_put s (group_request_from r member)

-- ---- decoders. 28. "a record not 36 or 28 bytes long", for a group's request not "32 bytes, in rows 5 and 28 too", or with
-- another mark (row 3), or with a zero byte that is not 0 (row 4): then the fields are zeros
abbrev pub credential_unmarked : Credential → Bool
credential_unmarked c = c.magic isnt credential_magic || c.zero isnt 0

unfoldable pub credential_decoded : List ℕ → CredentialDecoded
credential_decoded s =
    cond (length s isnt credential_size || credential_unmarked (credential_at s 0))
    (record { row = 28; fields = no_credential })
    (record { row = 0; fields = credential_fields (credential_at s 0) })

abbrev pub request_unmarked : ℕ → Request → Bool
request_unmarked magic r = r.magic isnt magic

-- the request of a mark, in as many bytes as the mark tells, or the refusal
abbrev pub size_by : ℕ → ℕ
size_by magic = cond (magic is group_magic) group_request_size request_size

unfoldable pub request_told : ℕ → List ℕ → Result Request Refusal
request_told magic s =
    cond (length s isnt size_by magic || request_unmarked magic (request_at s 0)) (Err WrongRecord) (Ok (request_at s 0))

unfoldable pub request_decoded : List ℕ → RequestDecoded
request_decoded s =
    cond (length s isnt request_size || request_unmarked request_magic (request_at s 0))
    (record { row = 28; fields = no_request })
    (record { row = 0; fields = request_fields (request_at s 0) })

unfoldable pub group_request_decoded : List ℕ → GroupRequestDecoded
group_request_decoded s =
    cond (length s isnt group_request_size || request_unmarked group_magic (request_at s 0))
    (record { row = 28; fields = no_request; member = 0 })
    (record { row = 0; fields = request_fields (request_at s 0); member = (request_at s 0).member })

-- ---- results. 3. Look: "size .. and version, four bytes each"; row 28 for any other length
unfoldable pub look_decoded : List ℕ → LookDecoded
look_decoded s =
    cond (length s isnt 8)
    (record { row = 28; size = 0; version = 0 })
    (record { row = 0; size = number_at s 0 4; version = number_at s 4 4 })

-- 4. Raise, 5. Create: "that version in four bytes"
unfoldable pub version_decoded : List ℕ → VersionDecoded
version_decoded s =
    cond (length s isnt 4)
    (record { row = 28; version = 0 })
    (record { row = 0; version = number_at s 0 4 })
