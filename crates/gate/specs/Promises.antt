-- What the program's functions promise, round by round, and what all rounds do from a freshly formatted drive. The bytes that
-- the reads brought and those that were handed to write are known by two logs (`Logged`), as far as these have room.
-- t, r: the state before and after. m: the medium. buf: the input buffer. inlog, outlog: the logs of input and output.
use Rattle.std.specs.Prelude.{◌≡◌, Bool, true, false, List, [], ◌∷◌, ◌++◌, Option, None, Some, Result, ℕ, ◌+◌, ◌≤◌, ◌<◌, eqb, length, drop}
use Rattle.std.specs.Result.{is_ok}
use Rattle.rules.specs.Program.{answered, cut, formatted, lines_from, most_frame, printed, prints, program, reply_size}
use Rattle.drive.specs.Chain.{state_of}
use Rattle.drive.specs.declared.Drive.{Drive}
use Rattle.logged.specs.Log.{Logged}
use Rattle.logged.specs.declared.WriteFailed.{WriteFailed}
use Rattle.reader.specs.declared.Intake.{Intake}
use Rattle.reader.specs.declared.Stop.{Stop}
use Rattle.reader.specs.declared.Stop.TheVariants.{Ended, Malformed, Unread}
use Rattle.reader.specs.Promises.{goes_on, nothing_read, pending_in}
use Rattle.reader.specs.Session.{Session, WholeInput}
use Rattle.gate.specs.declared.Served.{Served}

-- room for the longest line, in bytes
abbrev pub line_size : ℕ
line_size = 64

-- the lines of calls after the first n, by their rows and reply lengths
unfoldable pub lines_of : ℕ → List ℕ → List ℕ → List ℕ
lines_of n [] lengths = []
lines_of n (row ∷ rows) [] = []
lines_of n (row ∷ rows) (size ∷ lengths) = printed (n + 1) row size ++ lines_of (n + 1) rows lengths

-- ---- the state between two rounds: the drive, the input, how many calls there have been, how many bytes the log of the output
-- has, and whether all of the output could be written
pub record LoopState : Type 0 where
  pub drive : Drive
  pub intake : Intake
  pub calls : ℕ
  pub logged : ℕ
  pub written : Bool

-- of the drive, of what was served, and of what writing answered
abbrev pub loop_state : Drive → Served → Result (Unit {0}) WriteFailed → LoopState
loop_state d t w = record { drive = d; intake = t.intake; calls = t.calls; logged = t.logged; written = is_ok w }

-- nothing is served yet
abbrev pub at_start : Served
at_start = record { intake = nothing_read; calls = 0; logged = 0 }

-- ---- between two rounds: what has come and what has gone out since the format
pub record Progress (t : LoopState) (m buf inlog outlog : List ℕ) : Type 0 where
  pub session : Session most_frame reply_size formatted t.intake t.drive m buf inlog
  pub counted : t.calls ≡ length session.calls
  pub went : Logged outlog t.logged (lines_from 0 (answered formatted session.calls))

-- and where the input stops, what is known of all of it
pub record Reached (r : LoopState) (m buf inlog outlog : List ℕ) : Type 0 where
  pub progress : Progress r m buf inlog outlog
  pub whole : WholeInput most_frame reply_size r.intake.stopped progress.session.input progress.session.calls
      (pending_in buf r.intake)
  pub order : r.intake.from ≤ r.intake.to
  pub within : r.intake.to ≤ length buf

-- ---- one round: while the input goes on, bytes have come or a call was made
pub record RoundMet (t r : LoopState) (m buf inlog outlog : List ℕ) : Type 0 where
  pub reached : Reached r m buf inlog outlog
  pub grows : r.intake.stopped ≡ None → t.intake.received + t.calls < r.intake.received + r.calls

-- all rounds: the input has stopped, or the output could not be written
pub record ServeMet (r : LoopState) (m buf inlog outlog : List ℕ) : Type 0 where
  pub reached : Reached r m buf inlog outlog
  pub stopped : r.written ≡ true → goes_on r.intake.stopped ≡ false

-- ---- the program
-- whether the input has ended behind a whole record, so that nothing is pending
abbrev pub ended_as : Option Stop → ℕ → ℕ → Bool
ended_as None from to = false
ended_as (Some Ended) from to = eqb from to
ended_as (Some Malformed) from to = false
ended_as (Some Unread) from to = false

abbrev pub has_ended : Intake → Bool
has_ended t = ended_as t.stopped t.from t.to

-- the last line, "`end` and the count of calls", or `cut`. n: the calls
abbrev pub LastLine : Option Stop → ℕ → List ℕ → List ℕ → List ℕ → Type 0
LastLine None n input lines last = ⊥
-- the reads brought the whole input: what was put out is what document 01's program prints of it
LastLine (Some Ended) n input lines last = program input ≡ lines ++ last
-- and of an input whose start they brought, whatever bytes q were never read
LastLine (Some Malformed) n input lines last = (q : List ℕ) → program (input ++ q) ≡ lines ++ last
-- more may have been to come
LastLine (Some Unread) n input lines last = last ≡ cut n

pub record RunMet (r : LoopState) (m inlog outlog : List ℕ) : Type 0 where
  -- the bytes that the reads brought, in order
  pub input : List ℕ
  pub came : Logged inlog r.intake.logged input
  -- the bytes that were handed to write, in order: the lines of the calls, and the last line
  pub lines : List ℕ
  pub last : List ℕ
  pub went : Logged outlog r.logged (lines ++ last)
  -- the first `taken` bytes of the input are answered. Whatever comes later, the lines, followed by what is printed of the
  -- rest from the state reached, are what document 01's program prints of the whole input
  pub taken : ℕ
  pub within : taken ≤ length input
  pub reached : (q : List ℕ)
      → program (input ++ q) ≡ lines ++ prints (state_of r.drive m) r.calls (drop taken input ++ q)
  pub ending : r.written ≡ true → LastLine r.intake.stopped r.calls input lines last
  -- the output can't be written: nothing more is put out
  pub unwritten : r.written ≡ false → last ≡ []
