-- Document 01, "Client end": issuer, frame builder and reply check, with rows 26 and 28 to 30.
use Rattle.std.specs.Prelude.{◌&&◌, ◌||◌, Bool, cond, not, [], ◌++◌, ◌∷◌, List, ◌+◌, ℕ, replicate, take, length}
use Rattle.lemmas.specs.Lists.{part, same, splice}
use Rattle.lemmas.specs.RowTable.{first_row, line, Row}
use Rattle.lemmas.specs.Tests.{◌is◌, ◌isnt◌, ◌over◌, ◌under◌, any}
use Rattle.rules.specs.declared.Credential.{Credential}
use Rattle.digest.specs.Hmac.{hmac}
use Rattle.rules.specs.Frame.{
  covered,
  credential_at,
  credential_bytes,
  credential_length,
  credential_magic,
  credential_size,
  digest_size,
  frame_length,
  key_size,
  request_at,
  request_length,
}
use Rattle.rules.specs.Needs.{default_need}
use Rattle.rules.specs.Operations.{head, head_size, reply, reply_covered, reply_length, result_length}
use Rattle.rules.specs.Rows.{low_level, outside_credential, row3, row4, row6, wrong_data}

-- 26. "a key lent is not 32 bytes"
abbrev pub row26 : List ℕ → Bool
row26 key = length key isnt key_size

-- ---- issuer: "writes the 36 bytes and returns the credential key"
pub record Issued : Type 0 where
  pub row : ℕ
  pub key : List ℕ
  pub space : List ℕ

unfoldable pub issue_rows : Credential → List ℕ → List ℕ → List Row
issue_rows c key space =
    line 26 (row26 key)
    -- "a field that row 3 or 4 would refuse in the credential"
    ∷ line 28 (c.magic isnt credential_magic || outside_credential c)
    -- "the space lent is too short"
    ∷ line 29 (length space under credential_size)
    ∷ []

unfoldable pub issue : Credential → List ℕ → List ℕ → Issued
issue c key space =
    let row = first_row (issue_rows c key space) in
    cond (row is 0)
    (record { row = 0; key = hmac key (credential_bytes c); space = splice space 0 (credential_bytes c) })
    (record { row = row; key = replicate key_size 0; space = space })

-- ---- 28. builder and reply check: "a record not 36 or 28 bytes long, or one of rows 3–7 met by the records";
-- change 6 of document 02: a group's request has "32 bytes, in rows 5 and 28 too".
-- Change 5 of document 02: "row 7 at the client end" keeps "document 01's rule, operation 8 treated as 7"
abbrev pub record_faults : List ℕ → List ℕ → List Bool
record_faults credential request =
    let c = credential_at credential 0 in
    let r = request_at request 0 in
    (length credential isnt credential_length c)
    ∷ (length request isnt request_length r)
    ∷ row3 c r
    ∷ row4 c r
    ∷ wrong_data r
    ∷ row6 c r
    ∷ low_level (default_need r.operation) c r
    ∷ []

unfoldable pub bad_records : List ℕ → List ℕ → Bool
bad_records credential request = any (record_faults credential request)

-- ---- builder: "writes a frame from both records and data", under the credential key
pub record Built : Type 0 where
  pub row : ℕ
  pub length : ℕ
  pub space : List ℕ

unfoldable pub frame_of : List ℕ → List ℕ → List ℕ → List ℕ → List ℕ
frame_of credential request payload key =
    credential ++ (request ++ (payload ++ hmac key (covered (request_at request 0).level credential request payload)))

-- how long it is
abbrev pub built_length : List ℕ → List ℕ → ℕ
built_length credential request = frame_length (credential_length (credential_at credential 0)) (request_at request 0)

unfoldable pub build_rows : List ℕ → List ℕ → List ℕ → List ℕ → List ℕ → List Row
build_rows credential request payload key space =
    line 26 (row26 key)
    -- "for the builder also n not the data's length"
    ∷ line 28 (bad_records credential request || (request_at request 0).n isnt length payload)
    ∷ line 29 (length space under built_length credential request)
    ∷ []

unfoldable pub build : List ℕ → List ℕ → List ℕ → List ℕ → List ℕ → Built
build credential request payload key space =
    let row = first_row (build_rows credential request payload key space) in
    cond (row is 0)
    (record {
      row = 0;
      length = built_length credential request;
      space = splice space 0 (frame_of credential request payload key);
    })
    (record { row = row; length = 0; space = space })

-- ---- reply check: "returns the result as a part of the reply itself"; for the solver its start and length too
pub record Checked : Type 0 where
  pub row : ℕ
  pub start : ℕ
  pub length : ℕ
  pub result : List ℕ

-- 28. "for the reply check also a result of over 4,194,304 bytes called for"
abbrev pub most_result : ℕ
most_result = 4_194_304

-- 30. "the reply is not the mark, operation, level, result length and total length that the request calls for,
-- or its level 2 digest differs"
unfoldable pub row30 : List ℕ → List ℕ → List ℕ → List ℕ → Bool
row30 credential request key reply =
    let r = request_at request 0 in
    let n = head_size + result_length r in
    not (same (take head_size reply) (head r (result_length r)))
    || length reply isnt reply_length r
    || (r.level is 2 && not (same (part reply n digest_size)
    (hmac key (reply_covered credential request (take n reply)))))

unfoldable pub check_rows : List ℕ → List ℕ → List ℕ → List ℕ → List Row
check_rows credential request key reply =
    line 26 (row26 key)
    ∷ line 28 (bad_records credential request || result_length (request_at request 0) over most_result)
    ∷ line 30 (row30 credential request key reply)
    ∷ []

unfoldable pub check : List ℕ → List ℕ → List ℕ → List ℕ → Checked
check credential request key reply =
    let n = result_length (request_at request 0) in
    let row = first_row (check_rows credential request key reply) in
    cond (row is 0)
    (record { row = 0; start = head_size; length = n; result = part reply head_size n })
    (record { row = row; start = 0; length = 0; result = [] })
