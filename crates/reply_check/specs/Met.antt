-- The promise of the call: an equation with each part of document 01's own definition of it.
use Rattle.std.specs.Prelude.{◌≡◌, [], List, ℕ, ◌+◌, length, Result, Ok, Err}
use Rattle.std.specs.Borrow.{Bor}
use Rattle.rules.specs.declared.refusal.Refusal.{Refusal}
use Rattle.rules.specs.Client as rules

-- bytes that are lent: a slice has a place in memory, `ptr`, which is a block and how far into it, and its bytes, `now`
abbrev pub Slice : Type 0
Slice = Bor (List ℕ)

-- so many bytes after the start of a slice
abbrev pub place_after : Slice → ℕ → ℕ × ℕ
place_after s n = (s.ref_ptr.0, s.ref_ptr.1 + n)

-- the part that an answer returns. "A check refused by any row returns an empty part": of no bytes, at the reply's start
abbrev pub part_of : Slice → Result Slice Refusal → Slice
part_of s (Ok part) = part
part_of s (Err refusal) = record { ref_ptr = place_after s 0; now = [] }

-- the reply check, of credential, request, the credential key k and the reply s: row n and the slice p
pub record CheckMet (credential request k : List ℕ) (s : Slice) (n : ℕ) (p : Slice) : Type 0 where
  pub row : n ≡ (rules.check credential request k s.now).row
  pub result : p.now ≡ (rules.check credential request k s.now).result
  -- "The reply check returns the result as a part of the reply itself": the part that starts so far into the reply and is so long
  pub start : p.ref_ptr ≡ place_after s (rules.check credential request k s.now).start
  pub length : length p.now ≡ (rules.check credential request k s.now).length
