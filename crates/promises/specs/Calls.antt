-- The calls of both ends as they were made: what each brought, what it returned and what it left; that it kept its
-- promise; and all that it gave, as document 01 writes it. A call of the gate is a `CallMade`, put to a `DriveState`.
-- f: a format. i: a call of the issuer. b: of the builder. k: of the reply check. c: of the gate.
use Rattle.std.specs.Prelude.{List, ◌-◌, ℕ, length, take}
use Rattle.rules.specs.declared.Credential.{Credential}
use Rattle.rules.specs.Client as rules
use Rattle.rules.specs.Drive as rules_drive
use Rattle.rules.specs.Frame.{credential_size}
use Rattle.rules.specs.Gate as rules_gate
use Rattle.drive.specs.Answers.{Formatted}
use Rattle.drive.specs.Chain.{CallMade}
use Rattle.drive.specs.Met.{FormatMet}
use Rattle.drive.specs.View.{view}
use Rattle.client.specs.Answers.{Built, Issued}
use Rattle.client.specs.Met.{BuildMet, IssueMet}
use Rattle.reply_check.specs.Met.{CheckMet, Slice}

-- ---- format: a medium, the first version, master and drive key; what it left of the medium
pub record FormatMade : Type 0 where
  pub medium : List ℕ
  pub first : ℕ
  pub master : List ℕ
  pub drive : List ℕ
  pub answer : Formatted
  pub after : List ℕ

abbrev pub FormatKept : FormatMade → Type 0
FormatKept f = FormatMet f.medium f.first f.master f.drive f.answer f.after

abbrev pub format_gave : FormatMade → rules_drive.Formatted
format_gave f = record { row = f.answer.row; drive = view f.answer.drive; medium = f.after }

-- ---- the gate
abbrev pub gate_gave : CallMade → rules_gate.Answer rules_drive.Drive
gate_gave c = record {
  row = c.answer.row;
  length = c.answer.length;
  drive = view c.answer.drive;
  medium = c.medium;
  space = c.space;
}

-- the reply: as many bytes of the space as the call says
abbrev pub reply_bytes : CallMade → List ℕ
reply_bytes c = take c.answer.length c.space

-- ---- the issuer: a credential, the key in its slot, and a space; what it left of the space
pub record IssueMade : Type 0 where
  pub credential : Credential
  pub slot_key : List ℕ
  pub space : List ℕ
  pub answer : Issued
  pub after : List ℕ

abbrev pub IssueKept : IssueMade → Type 0
IssueKept i = IssueMet i.credential i.slot_key i.space i.answer i.after

abbrev pub issue_gave : IssueMade → rules.Issued
issue_gave i = record { row = i.answer.row; key = i.answer.key; space = i.after }

-- the 36 bytes
abbrev pub issued_bytes : IssueMade → List ℕ
issued_bytes i = take credential_size i.after

-- ---- the builder: two records, data, the credential key, and a space; what it left of the space
pub record BuildMade : Type 0 where
  pub credential : List ℕ
  pub request : List ℕ
  pub payload : List ℕ
  pub key : List ℕ
  pub space : List ℕ
  pub answer : Built
  pub after : List ℕ

abbrev pub BuildKept : BuildMade → Type 0
BuildKept b = BuildMet b.credential b.request b.payload b.key b.space b.answer b.after

abbrev pub build_gave : BuildMade → rules.Built
build_gave b = record { row = b.answer.row; length = b.answer.length; space = b.after }

-- the frame: as many bytes of the space as the call says
abbrev pub built_bytes : BuildMade → List ℕ
built_bytes b = take b.answer.length b.after

-- ---- the reply check: the same two records and key, and a reply; its row, and the part of the reply that it returned
pub record CheckMade : Type 0 where
  pub credential : List ℕ
  pub request : List ℕ
  pub key : List ℕ
  pub reply : Slice
  pub row : ℕ
  pub part : Slice

abbrev pub CheckKept : CheckMade → Type 0
CheckKept k = CheckMet k.credential k.request k.key k.reply k.row k.part

-- `start`: how far behind the reply's own start the part begins
abbrev pub check_gave : CheckMade → rules.Checked
check_gave k = record {
  row = k.row;
  start = k.part.ref_ptr.1 - k.reply.ref_ptr.1;
  length = length k.part.now;
  result = k.part.now;
}
