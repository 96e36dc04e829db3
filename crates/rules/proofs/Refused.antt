-- A table of rows that code judges from top to bottom, each by a `refuse` with a `?`: what the answer so far tells of the table.
-- t: a row's test. r: its refusal. e: what was answered. rs: the rows below it.
use Rattle.std.specs.Prelude.{◌≡◌, refl, Bool, true, false, List, [], ◌∷◌, Result, Ok, Err}
use Rattle.std.proofs.Common.{◌∙◌, ap}
use Rattle.std.specs.Result.{IsErrAnd}
use Rattle.std.proofs.lemmas.Result.{err_from_is_err_and}
use Rattle.lemmas.specs.Tests.{◌is◌}
use Rattle.lemmas.specs.RowTable.{Row, line, first_row}
use Rattle.rules.specs.declared.refusal.Refusal.{Refusal}
use Rattle.rules.specs.declared.refusal.Refusal.TheVariants.{
  UnsoundDrive,
  ShortFrame,
  WrongMark,
  WrongField,
  WrongLength,
  Misfit,
  LowLevel,
  KeyNotSet,
  WrongDigest,
  Expired,
  Untimely,
  Replayed,
  NoRight,
  NoObject,
  OtherVersion,
  OutOfRange,
  PastEnd,
  NumberTaken,
  AllObjects,
  NoGap,
  NoVersion,
  MemoryFull,
  ShortReplySpace,
  LargeMedium,
  ZeroVersion,
  WrongKeySize,
  TooLong,
  WrongRecord,
  ShortSpace,
  WrongReply,
  BadTable,
  BadList,
  NotListed,
  NoMember,
}
use Rattle.rules.specs.Refusals.{answer_row, refusal_row, refused_when}

-- no refusal has row 0
pub row_isnt_zero : (r : Refusal) → (refusal_row r is 0) ≡ false
row_isnt_zero UnsoundDrive = refl
row_isnt_zero ShortFrame = refl
row_isnt_zero WrongMark = refl
row_isnt_zero WrongField = refl
row_isnt_zero WrongLength = refl
row_isnt_zero Misfit = refl
row_isnt_zero LowLevel = refl
row_isnt_zero KeyNotSet = refl
row_isnt_zero WrongDigest = refl
row_isnt_zero Expired = refl
row_isnt_zero Untimely = refl
row_isnt_zero Replayed = refl
row_isnt_zero NoRight = refl
row_isnt_zero NoObject = refl
row_isnt_zero OtherVersion = refl
row_isnt_zero OutOfRange = refl
row_isnt_zero PastEnd = refl
row_isnt_zero NumberTaken = refl
row_isnt_zero AllObjects = refl
row_isnt_zero NoGap = refl
row_isnt_zero NoVersion = refl
row_isnt_zero MemoryFull = refl
row_isnt_zero ShortReplySpace = refl
row_isnt_zero LargeMedium = refl
row_isnt_zero ZeroVersion = refl
row_isnt_zero WrongKeySize = refl
row_isnt_zero TooLong = refl
row_isnt_zero WrongRecord = refl
row_isnt_zero ShortSpace = refl
row_isnt_zero WrongReply = refl
row_isnt_zero BadTable = refl
row_isnt_zero BadList = refl
row_isnt_zero NotListed = refl
row_isnt_zero NoMember = refl

-- a refusal is handed on by the `?`: its row is the answer's
pub row_handed_on : {T : Type 0} (a : Result T Refusal) (e : Refusal) → IsErrAnd a (λ d. d ≡ e) → answer_row a ≡ refusal_row e
row_handed_on a e h = let p = err_from_is_err_and a h in rw (p.1, p.2) refl

-- what a refusal tells of its test, and what none tells
pub refused_tells : (t : Bool) (r e : Refusal) → Err e ≡ refused_when t r → (t ≡ true) × (e ≡ r)
refused_tells true r e h = (refl, cc)
refused_tells false r e h = cc

pub passed_tells : (t : Bool) (r : Refusal) (u : Unit {0}) → Ok u ≡ refused_when t r → t ≡ false
passed_tells true r u h = cc
passed_tells false r u h = refl

-- a refusal: the row is the table's
pub row_refused : (t : Bool) (r e : Refusal) (rs : List Row) → Err e ≡ refused_when t r
    → refusal_row e ≡ first_row (line (refusal_row r) t ∷ rs)
unfolding first_row
row_refused true r e rs h = let s : e ≡ r = cc in rw s refl
row_refused false r e rs h = cc

-- none: the rows below it are judged
pub row_passed : (t : Bool) (r : Refusal) (u : Unit {0}) (rs : List Row) → Ok u ≡ refused_when t r
    → first_row (line (refusal_row r) t ∷ rs) ≡ first_row rs
unfolding first_row
row_passed true r u rs h = cc
row_passed false r u rs h = refl

-- the last row
pub row_last : (t : Bool) (r : Refusal) → answer_row (refused_when t r) ≡ first_row (line (refusal_row r) t ∷ [])
unfolding first_row
row_last true r = refl
row_last false r = refl

-- a refusal is handed on by the `?`, whatever the answer would have been
pub handed_on : {T : Type 0} (a : Result T Refusal) (e : Refusal) → IsErrAnd a (λ d. d ≡ e) → a ≡ Err e
handed_on a e h = let told = err_from_is_err_and a h in told.1 ∙ ap Err told.2
