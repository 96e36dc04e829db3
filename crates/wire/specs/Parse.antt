-- Document 01, "Request, 28 bytes, and frame": "Parsing answers with the fields or with a row". What an answer says,
-- and what a frame's answer has to say.
-- f: the frame. c, r: the numbers of its credential and request. p: an answer, request: its parsed request.
use Rattle.std.specs.Prelude.{◌≡◌, ◌⊎◌, cond, false, List, ℕ, ◌≤◌, Option, Some, None, Result, Ok, Err}
use Rattle.lemmas.specs.Tests.{◌is◌}
use Rattle.lemmas.specs.RowTable.{first_row}
use Rattle.rules.specs.declared.Credential.{Credential}
use Rattle.rules.specs.declared.Request.{Request}
use Rattle.rules.specs.declared.PartStarts.{PartStarts}
use Rattle.rules.specs.Frame.{fields, group_magic, is_group_request, part_starts, request_magic, starts_behind}
use Rattle.rules.specs.Rows.{frame_rows}
use Rattle.rules.specs.Refusals.{refusal_row}
use Rattle.rules.specs.declared.refusal.Refusal.{Refusal}
use Rattle.record_rows.specs.Refusals.{record_row}
use Rattle.rules.specs.declared.Operation.{Operation}
use Rattle.rules.specs.declared.Operation.TheVariants.{Read, Write, Look, Raise, Create, Delete, SetKey, LoadTable}
use Rattle.wire.specs.declared.OperationNumbers.{OperationNumbers}
use Rattle.wire.specs.declared.ParsedRequest.{ParsedRequest}
use Rattle.wire.specs.declared.Parsed.{Parsed}

-- ---- an operation's numbers, "1–7" and with change 5 of document 02 also 8, A and B; 0 for an argument that it does
-- not carry
abbrev pub operation_numbers : Operation → OperationNumbers
operation_numbers (Read offset length) = record { operation = 1; a = offset; b = length }
operation_numbers (Write offset length) = record { operation = 2; a = offset; b = length }
operation_numbers Look = record { operation = 3; a = 0; b = 0 }
operation_numbers Raise = record { operation = 4; a = 0; b = 0 }
operation_numbers (Create number size) = record { operation = 5; a = number; b = size }
operation_numbers Delete = record { operation = 6; a = 0; b = 0 }
operation_numbers (SetKey target) = record { operation = 7; a = target; b = 0 }
operation_numbers LoadTable = record { operation = 8; a = 0; b = 0 }

abbrev pub operation_number : Operation → ℕ
operation_number o = (operation_numbers o).operation

abbrev pub first_number : Operation → ℕ
first_number o = (operation_numbers o).a

abbrev pub second_number : Operation → ℕ
second_number o = (operation_numbers o).b

-- ---- what it reaches, its credential's own object or the member that it names, as a request's mark and member: 4C 52, or 4C 47
-- "and the member's number"
abbrev pub reach_magic : Option ℕ → ℕ
reach_magic None = request_magic
reach_magic (Some number) = group_magic

abbrev pub reach_member : Option ℕ → ℕ
reach_member None = 0
reach_member (Some number) = number

-- a parsed request's numbers
unfoldable pub numbers_of : ParsedRequest → Request
numbers_of request = record {
  magic = reach_magic request.member;
  operation = operation_number request.operation;
  level = request.level;
  time = request.time;
  count = request.count;
  A = first_number request.operation;
  B = second_number request.operation;
  n = request.n;
  member = reach_member request.member;
}

-- ---- what an answer says: a row's number, or the numbers of credential and request and where the parts start
pub data ParseAnswer : Type 0 where
  refused_by : ℕ → ParseAnswer
  fields_of : Credential → Request → PartStarts → ParseAnswer

abbrev pub answer_of : Result Parsed Refusal → ParseAnswer
answer_of (Err refusal) = refused_by (refusal_row refusal)
answer_of (Ok p) = fields_of p.credential (numbers_of p.request) p.request.starts

-- ---- what a frame's answer has to say: the lowest of rows 2 to 6 that applies, or the fields
unfoldable pub answer_by : ℕ → Credential → Request → PartStarts → ParseAnswer
answer_by row c r starts = cond (row is 0) (fields_of c r starts) (refused_by row)

unfoldable pub frame_row : List ℕ → ℕ
frame_row f = first_row (frame_rows f (fields f))

unfoldable pub frame_answer : List ℕ → ParseAnswer
frame_answer f = answer_by (frame_row f) (fields f).cred (fields f).req (part_starts f)

-- ---- the same from credential and request, the place where the request starts, and the length of a frame that row 2 does not
-- refuse: rows 3 to 6
unfoldable pub records_answer : Credential → Request → ℕ → ℕ → ParseAnswer
records_answer c r at len = answer_by (record_row c r at len) c r (starts_behind at r)

-- a request has a member only with a group's mark, as every one that is read
abbrev pub Formed : Request → Type 0
Formed r = is_group_request r ≡ false → r.member ≡ 0

-- mark and member of which neither is lost in the enum
abbrev pub MemberKept : ℕ → ℕ → Type 0
MemberKept magic member = (magic ≡ group_magic) ⊎ ((magic ≡ request_magic) × (member ≡ 0))

-- an operation's numbers of which none is lost in the enum: an argument that it does not carry is 0
pub record ArgumentsKept (op a b : ℕ) : Type 0 where
  pub low : 1 ≤ op
  pub high : op ≤ 8
  pub look : op ≡ 3 → (a ≡ 0) × (b ≡ 0)
  pub raise : op ≡ 4 → (a ≡ 0) × (b ≡ 0)
  pub delete : op ≡ 6 → (a ≡ 0) × (b ≡ 0)
  pub key : op ≡ 7 → b ≡ 0
  pub load : op ≡ 8 → (a ≡ 0) × (b ≡ 0)
