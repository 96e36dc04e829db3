-- What a round of the reader promises. most: the longest frame, in bytes. t, r: the input before and after. m: the medium.
-- buf: the input buffer. x: the reply space. inlog: the log of the input.
use Rattle.std.specs.Prelude.{◌≡◌, Bool, true, false, cond, List, [], ◌∷◌, ◌++◌, map, Option, None, Some, ℕ, ◌+◌, ◌-◌, ◌^◌, ◌≤◌, ◌<◌, length, take, drop}
use Rattle.lemmas.specs.Fronts.{with_front}
use Rattle.rules.specs.Frame.{fields}
use Rattle.rules.specs.Refusals.{answer_length, answer_row}
use Rattle.rules.specs.Gate.{Call, gate}
use Rattle.rules.specs.Demands.{State, after, step}
use Rattle.rules.specs.Program.{AnsweredCall, answered, broken, calls_of, clock_in, frame_in, frame_length, left_of, record_head}
use Rattle.record.specs.Arrival.{malformed}
use Rattle.drive.specs.declared.Drive.{Drive}
use Rattle.drive.specs.Chain.{state_of}
use Rattle.logged.specs.Log.{Added}
use Rattle.reader.specs.declared.Answered.{Answered}
use Rattle.reader.specs.declared.Intake.{Intake}
use Rattle.reader.specs.declared.Stop.{Stop}
use Rattle.reader.specs.declared.Stop.TheVariants.{Ended, Malformed, Unread}
use Rattle.reader.specs.declared.whole.InputRecord.{InputRecord}

-- no more bytes are read; a read brings at most so many
abbrev pub input_limit : ℕ
input_limit = 2 ^ 63

abbrev pub most_read : ℕ
most_read = 2 ^ 30

-- the input buffer of a program with document 01's longest frame, in bytes
abbrev pub input_size : ℕ
input_size = 131_086

-- ---- the pending bytes: those from one place of the buffer up to another
abbrev pub between : List ℕ → ℕ → ℕ → List ℕ
between s from to = take (to - from) (drop from s)

abbrev pub pending_in : List ℕ → Intake → List ℕ
pending_in buf t = between buf t.from t.to

-- nothing has been read
abbrev pub nothing_read : Intake
nothing_read = record { from = 0; to = 0; received = 0; logged = 0; stopped = None }

-- whether the input goes on
abbrev pub goes_on : Option Stop → Bool
goes_on None = true
goes_on (Some stop) = false

-- ---- the input record at the start of input, whole: its clock and its frame, which lie within input
pub record WholeMet (most : ℕ) (input : List ℕ) (clock : ℕ) (frame : List ℕ) : Type 0 where
  pub whole : broken most input ≡ false
  pub reading : clock ≡ clock_in input
  pub content : frame ≡ frame_in input
  pub counted : length frame ≡ frame_length input
  pub within : record_head + length frame ≤ length input

-- and none where it is not whole
abbrev pub WholeRecordMet : ℕ → List ℕ → Option InputRecord → Type 0
WholeRecordMet most input None = broken most input ≡ true
WholeRecordMet most input (Some r) = WholeMet most input r.clock r.frame.now

-- ---- an answer: its row, its reply's length, and the partition that its credential names
abbrev pub answered_row : Answered → ℕ
answered_row a = answer_row a.answer

abbrev pub answered_length : Answered → ℕ
answered_length a = answer_length a.answer

abbrev pub answered_partition : Answered → ℕ
answered_partition a = a.partition

-- ---- a list of calls, put to the drive and medium s
-- the reply space x after them: each finds it as the last one left it
unfoldable pub space_after : State → List ℕ → List Call → List ℕ
space_after s x [] = x
space_after s x (c ∷ cs) =
    space_after (step s c)
    (gate s.drive s.medium (record { frame = c.frame; clock = c.clock; space = x })).space cs

-- the partition that an answered call's credential names
abbrev pub partition_of : AnsweredCall → ℕ
partition_of a = (fields a.frame).cred.partition

-- the calls were made: what they left of drive, medium and reply space, and of the list of answers
pub record CallsMade (d : Drive) (calls : List Call) (m x : List ℕ) (answers : List Answered) (d' : Drive) (m' x' : List ℕ)
    (answers' : List Answered) : Type 0 where
  pub state : state_of d' m' ≡ after (state_of d m) calls
  pub space : x' ≡ space_after (state_of d m) x calls
  pub row : map answered_row answers' ≡ with_front (map AnsweredCall.row (answered (state_of d m) calls)) (map answered_row answers)
  pub size : map answered_length answers' ≡ with_front (map AnsweredCall.length (answered (state_of d m) calls)) (map answered_length answers)
  pub place : map answered_partition answers' ≡ with_front (map partition_of (answered (state_of d m) calls)) (map answered_partition answers)

-- what was made of some input: the drive, how many bytes the calls took, how many there were
pub record Answers : Type 0 where
  pub drive : Drive
  pub taken : ℕ
  pub count : ℕ

-- the whole records at the start of input, as many as there is room for
pub record AnswerMet (d : Drive) (most : ℕ) (m input x : List ℕ) (answers : List Answered) (r : Answers) (m' x' : List ℕ)
    (answers' : List Answered) : Type 0 where
  pub made : CallsMade d (calls_of most (length x) (length answers) input) m x answers r.drive m' x' answers'
  pub count : r.count ≡ length (calls_of most (length x) (length answers) input)
  pub left : drop r.taken input ≡ left_of most (length answers) input
  pub within : r.taken ≤ length input

-- ---- the input is ready for answers, or stops. got: the bytes that a read brought; none where no read was made
abbrev pub OutcomeMet : ℕ → List ℕ → List ℕ → Option Stop → Type 0
-- a whole record is pending, or a read brought something
OutcomeMet most pending got None = (broken most pending ≡ true) → 0 < length got
-- the read found the end
OutcomeMet most pending got (Some Ended) = (got ≡ []) × (broken most pending ≡ true)
OutcomeMet most pending got (Some Malformed) = (got ≡ []) × (malformed most pending ≡ true)
OutcomeMet most pending got (Some Unread) = (got ≡ []) × (broken most pending ≡ true)

pub record FillMet (most : ℕ) (t : Intake) (buf inlog : List ℕ) (r : Intake) (buf' inlog' : List ℕ) : Type 0 where
  pub got : List ℕ
  pub came : Added inlog t.logged got inlog' r.logged
  pub received : r.received ≡ t.received + length got
  pub bound : length got ≤ most_read
  -- a read is made only where no record is whole, and not behind the limit
  pub read : 0 < length got → (broken most (pending_in buf t) ≡ true) × (t.received < input_limit)
  pub arrived : pending_in buf' r ≡ pending_in buf t ++ got
  pub order : r.from ≤ r.to
  pub within : r.to ≤ length buf'
  pub outcome : OutcomeMet most (pending_in buf t) got r.stopped

-- ---- a round
-- so many records may be answered in it
abbrev pub room_in : Option Stop → List Answered → ℕ
room_in stopped answers = cond (goes_on stopped) (length answers) 0

-- what it left: the drive, the input, and how many calls it made
pub record Batch : Type 0 where
  pub drive : Drive
  pub intake : Intake
  pub count : ℕ

pub record NextMet (d : Drive) (t : Intake) (most : ℕ) (m buf x : List ℕ) (answers : List Answered) (inlog : List ℕ) (r : Batch)
    (m' buf' x' : List ℕ) (answers' : List Answered) (inlog' : List ℕ) : Type 0 where
  -- the bytes that it read
  pub got : List ℕ
  pub came : Added inlog t.logged got inlog' r.intake.logged
  pub received : r.intake.received ≡ t.received + length got
  pub bound : length got ≤ most_read
  pub read : 0 < length got → (broken most (pending_in buf t) ≡ true) × (t.received < input_limit)
  pub outcome : OutcomeMet most (pending_in buf t) got r.intake.stopped
  pub order : r.intake.from ≤ r.intake.to
  pub within : r.intake.to ≤ length buf'
  -- the calls that it made, and what is pending behind them
  pub calls : List Call
  pub those : calls ≡ calls_of most (length x) (room_in r.intake.stopped answers) (pending_in buf t ++ got)
  pub count : r.count ≡ length calls
  pub left : pending_in buf' r.intake ≡ left_of most (room_in r.intake.stopped answers) (pending_in buf t ++ got)
  pub made : CallsMade d calls m x answers r.drive m' x' answers'
