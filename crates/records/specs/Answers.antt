-- The decoders' answers in the code, in numbers: row 0 and what was read; or the row and zeros.
use Rattle.std.specs.Prelude.{ℕ, Result, Ok, Err}
use Rattle.rules.specs.declared.Credential.{Credential}
use Rattle.rules.specs.declared.Request.{Request}
use Rattle.rules.specs.declared.refusal.Refusal.{Refusal}
use Rattle.rules.specs.Refusals.{refusal_row}
use Rattle.records.specs.declared.CredentialDecoded.{CredentialDecoded}
use Rattle.records.specs.declared.RequestDecoded.{RequestDecoded}
use Rattle.records.specs.declared.GroupRequestDecoded.{GroupRequestDecoded}
use Rattle.records.specs.declared.LookDecoded.{LookDecoded}
use Rattle.records.specs.declared.VersionDecoded.{VersionDecoded}
use Rattle.records.specs.Coding.{credential_fields, no_credential, no_request, request_fields}

abbrev pub credential_answer : Result Credential Refusal → CredentialDecoded
credential_answer (Ok c) = record { row = 0; fields = credential_fields c }
credential_answer (Err refusal) = record { row = refusal_row refusal; fields = no_credential }

abbrev pub request_answer : Result Request Refusal → RequestDecoded
request_answer (Ok r) = record { row = 0; fields = request_fields r }
request_answer (Err refusal) = record { row = refusal_row refusal; fields = no_request }

abbrev pub group_request_answer : Result Request Refusal → GroupRequestDecoded
group_request_answer (Ok r) = record { row = 0; fields = request_fields r; member = r.member }
group_request_answer (Err refusal) = record { row = refusal_row refusal; fields = no_request; member = 0 }

abbrev pub look_answer : Result (ℕ × ℕ) Refusal → LookDecoded
look_answer (Ok numbers) = record { row = 0; size = numbers.0; version = numbers.1 }
look_answer (Err refusal) = record { row = refusal_row refusal; size = 0; version = 0 }

abbrev pub version_answer : Result ℕ Refusal → VersionDecoded
version_answer (Ok version) = record { row = 0; version = version }
version_answer (Err refusal) = record { row = refusal_row refusal; version = 0 }
