-- The answers of issuer and builder in document 01's numbers. "Whenever an answer is an enum, a definition gives this paper's number
-- and values for each of the enum's cases."
use Rattle.std.specs.Prelude.{List, ℕ, replicate, Result, Ok, Err}
use Rattle.rules.specs.declared.refusal.Refusal.{Refusal}
use Rattle.rules.specs.Frame.{key_size}
use Rattle.rules.specs.Refusals.{answer_length, answer_row, refusal_row}

-- the issuer's: row 0 and the credential key; or the row and 32 zero bytes
pub record Issued : Type 0 where
  pub row : ℕ
  pub key : List ℕ

abbrev pub issued_of : Result (List ℕ) Refusal → Issued
issued_of (Ok key) = record { row = 0; key = key }
issued_of (Err refusal) = record { row = refusal_row refusal; key = replicate key_size 0 }

-- the builder's: row 0 and the frame's length; or the row and length 0
pub record Built : Type 0 where
  pub row : ℕ
  pub length : ℕ

abbrev pub built_frame : Result ℕ Refusal → Built
built_frame answer = record { row = answer_row answer; length = answer_length answer }
