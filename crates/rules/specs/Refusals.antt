-- Document 01, "Why the drive says no", with rows 31 to 34 of document 02: the number of each refusal, and what an answer of the
-- code says in the documents' numbers. "Whenever an answer is an enum, a definition gives this paper's number and values for each
-- of the enum's cases."
use Rattle.std.specs.Prelude.{Bool, cond, ℕ, Result, Ok, Err}
use Rattle.rules.specs.declared.refusal.Refusal.{Refusal}
use Rattle.rules.specs.declared.refusal.Refusal.TheVariants.{
  UnsoundDrive,
  ShortFrame,
  WrongMark,
  WrongField,
  WrongLength,
  Misfit,
  LowLevel,
  KeyNotSet,
  WrongDigest,
  Expired,
  Untimely,
  Replayed,
  NoRight,
  NoObject,
  OtherVersion,
  OutOfRange,
  PastEnd,
  NumberTaken,
  AllObjects,
  NoGap,
  NoVersion,
  MemoryFull,
  ShortReplySpace,
  LargeMedium,
  ZeroVersion,
  WrongKeySize,
  TooLong,
  WrongRecord,
  ShortSpace,
  WrongReply,
  BadTable,
  BadList,
  NotListed,
  NoMember,
}

-- a refusal's row
abbrev pub refusal_row : Refusal → ℕ
refusal_row UnsoundDrive = 1
refusal_row ShortFrame = 2
refusal_row WrongMark = 3
refusal_row WrongField = 4
refusal_row WrongLength = 5
refusal_row Misfit = 6
refusal_row LowLevel = 7
refusal_row KeyNotSet = 8
refusal_row WrongDigest = 9
refusal_row Expired = 10
refusal_row Untimely = 11
refusal_row Replayed = 12
refusal_row NoRight = 13
refusal_row NoObject = 14
refusal_row OtherVersion = 15
refusal_row OutOfRange = 16
refusal_row PastEnd = 17
refusal_row NumberTaken = 18
refusal_row AllObjects = 19
refusal_row NoGap = 20
refusal_row NoVersion = 21
refusal_row MemoryFull = 22
refusal_row ShortReplySpace = 23
refusal_row LargeMedium = 24
refusal_row ZeroVersion = 25
refusal_row WrongKeySize = 26
refusal_row TooLong = 27
refusal_row WrongRecord = 28
refusal_row ShortSpace = 29
refusal_row WrongReply = 30
refusal_row BadTable = 31
refusal_row BadList = 32
refusal_row NotListed = 33
refusal_row NoMember = 34

-- "A grant returns 0": an answer's row
abbrev pub answer_row : {A : Type 0} → Result A Refusal → ℕ
answer_row (Ok x) = 0
answer_row (Err refusal) = refusal_row refusal

-- "with length 0": the length that an answer gives, 0 where it is refused
abbrev pub answer_length : Result ℕ Refusal → ℕ
answer_length (Ok length) = length
answer_length (Err refusal) = 0

-- a row refuses where its test applies
abbrev pub refused_when : Bool → Refusal → Result (Unit {0}) Refusal
refused_when applies refusal = cond applies (Err refusal) (Ok tt)
