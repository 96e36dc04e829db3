-- The digests' limits: document 01, section Digest, and its row 27. k is the key, m the message, d their digest.
use Rattle.std.specs.Prelude.{Bool, ◌||◌, List, [], ◌∷◌, ℕ, zero, suc, length, replicate, Result, Ok, Err}
use Rattle.lemmas.specs.Tests.{◌over◌}
use Rattle.lemmas.specs.RowTable.{Row, line, first_row}
use Rattle.digest.specs.declared.TooLong.{TooLong}
use Rattle.sha256_block.specs.Sha256.{sha256}
use Rattle.digest.specs.Hmac.{hmac}

-- key and message each have at most 16,777,216 bytes
abbrev pub too_long : List ℕ → Bool
too_long s = length s over 16_777_216

-- 27: key or message is too long
abbrev pub digest_rows : List ℕ → List ℕ → List Row
digest_rows k m = line 27 (too_long k || too_long m) ∷ []

-- an answer in the document's numbers: a row, and the bytes that return
pub record Digest : Type 0 where
  pub row : ℕ
  pub bytes : List ℕ

-- what a call answers, in them: row 0 and the digest; or row 27 and 32 zero bytes
abbrev pub digest_of : Result (List ℕ) TooLong → Digest
digest_of (Ok d) = record { row = 0; bytes = d }
digest_of (Err refusal) = record { row = 27; bytes = replicate 32 0 }

-- row 0 and the digest; or the row, and 32 zero bytes return
abbrev pub answer : ℕ → List ℕ → Digest
answer zero d = record { row = 0; bytes = d }
answer (suc r) d = record { row = suc r; bytes = replicate 32 0 }

-- SHA-256 has no key
abbrev pub sha256_answer : List ℕ → Digest
sha256_answer m = answer (first_row (digest_rows [] m)) (sha256 m)

abbrev pub hmac_answer : List ℕ → List ℕ → Digest
hmac_answer k m = answer (first_row (digest_rows k m)) (hmac k m)
