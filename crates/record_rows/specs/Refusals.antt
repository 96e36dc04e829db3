-- Document 01, rows 3 to 6: what refuses a credential by itself, and credential and request in a frame of a length.
-- c, r: the numbers of a credential and a request. start: where the request starts in the frame. len: the frame's length.
use Rattle.std.specs.Prelude.{◌≡◌, Bool, ◌||◌, List, [], ◌∷◌, ℕ, ◌+◌, ◌-◌, ◌≤◌}
use Rattle.std.proofs.Common.{sym, ◌∙◌, arith, eq-eqb, ne_eqb}
use Rattle.std.proofs.Math.Decide.{ℕ_discrete}
use Rattle.lemmas.specs.Tests.{◌is◌, ◌isnt◌}
use Rattle.lemmas.specs.RowTable.{Row, line, first_row}
use Rattle.rules.specs.declared.Credential.{Credential}
use Rattle.rules.specs.declared.Request.{Request}
use Rattle.rules.specs.Frame.{credential_magic, frame_length}
use Rattle.rules.specs.Rows.{row3, row4, wrong_data, row6, outside_credential}

-- "a field that row 3 or 4 would refuse in the credential"
abbrev pub bad_credential : Credential → Bool
bad_credential c = c.magic isnt credential_magic || outside_credential c

-- ---- the lowest of rows 3 to 6 that refuses both in a frame of len bytes, or 0
abbrev pub other_length : Request → ℕ → ℕ → Bool
other_length r start len = len isnt frame_length start r

abbrev pub wrong_length : Request → ℕ → ℕ → Bool
wrong_length r start len = wrong_data r || other_length r start len

abbrev pub record_rows : Credential → Request → ℕ → ℕ → List Row
record_rows c r start len =
    line 3 (row3 c r) ∷ line 4 (row4 c r) ∷ line 5 (wrong_length r start len) ∷ line 6 (row6 c r) ∷ []

unfoldable pub record_row : Credential → Request → ℕ → ℕ → ℕ
record_row c r start len = first_row (record_rows c r start len)

-- ---- a length is told by what lies behind the start
pub left_is : (len start n : ℕ) → start ≤ len → (len - start is n) ≡ (len is start + n)
left_is len start n h = go (ℕ_discrete len (start + n))
  where
    go : Dec (len ≡ start + n) → (len - start is n) ≡ (len is start + n)
    go (yes e) = eq-eqb (len - start) n (omega arith) ∙ sym (eq-eqb len (start + n) e)
    go (no e) = ne_eqb (len - start) n (λ f. e (omega arith)) ∙ sym (ne_eqb len (start + n) e)
