-- The answers of issuer and digest, of their row and bytes.
use Rattle.std.specs.Prelude.{List, ℕ}
use Rattle.client.specs.Answers.{Issued}
use Rattle.digest.specs.Digest.{Digest}

abbrev pub issued_with : ℕ → List ℕ → Issued
issued_with row key = record { row = row; key = key }

abbrev pub digest_with : ℕ → List ℕ → Digest
digest_with row bytes = record { row = row; bytes = bytes }
