-- What the program's functions promise, round by round, and what all rounds do from a freshly formatted drive. The bytes that
-- the reads brought and those that were handed to write are known by two logs (`Logged`), as far as these have room.
-- t, r: the state before and after. m: the medium. buf: the input buffer. ns: the counters. inlog, outlog: the logs of input
-- and output.
use Rattle.std.specs.Prelude.{◌≡◌, List, [], ◌∷◌, ◌++◌, Option, None, Some, ℕ, ◌+◌, ◌*◌, ◌≤◌, ◌<◌, false, length, drop, replicate}
use Rattle.rules.specs.Gate.{Call}
use Rattle.rules.specs.Demands.{after}
use Rattle.rules.specs.Program.{answered, calls_in, formatted, most_frame, reply_size}
use Rattle.rules.specs.Report.{counter_count, counters, place_of, report, report_of}
use Rattle.drive.specs.Chain.{state_of}
use Rattle.drive.specs.declared.Drive.{Drive}
use Rattle.logged.specs.Log.{Logged}
use Rattle.reader.specs.declared.Intake.{Intake}
use Rattle.reader.specs.declared.Stop.{Stop}
use Rattle.reader.specs.declared.Stop.TheVariants.{Ended, Malformed, Unread}
use Rattle.reader.specs.Promises.{goes_on, nothing_read, pending_in}
use Rattle.reader.specs.Session.{Session, WholeInput}
use Rattle.tally.specs.Tally.{counted}
use Rattle.report.specs.declared.Counted.{Counted}

-- counters of 0
abbrev pub no_counts : List ℕ
no_counts = replicate counter_count 0

-- room for every line, in bytes
abbrev pub out_size : ℕ
out_size = 63 * (counter_count + 1)

-- the counters after calls by their rows and partitions
unfoldable pub counted_all : List ℕ → List ℕ → List ℕ → List ℕ
counted_all ns [] partitions = ns
counted_all ns (row ∷ rows) [] = ns
counted_all ns (row ∷ rows) (partition ∷ partitions) = counted_all (counted ns (place_of row partition) row) rows partitions

-- ---- the state between two rounds: the drive, the input, and how many calls there have been
pub record LoopState : Type 0 where
  pub drive : Drive
  pub intake : Intake
  pub calls : ℕ

abbrev pub loop_state : Drive → Counted → LoopState
loop_state d t = record { drive = d; intake = t.intake; calls = t.calls }

-- nothing is counted yet
abbrev pub at_start : Counted
at_start = record { intake = nothing_read; calls = 0 }

-- the end: the drive after all calls, the input, how many calls there were, and how many bytes the log of the output has
pub record Printed : Type 0 where
  pub drive : Drive
  pub intake : Intake
  pub calls : ℕ
  pub logged : ℕ

abbrev pub printed : Drive → Counted → ℕ → Printed
printed d t logged = record { drive = d; intake = t.intake; calls = t.calls; logged = logged }

-- ---- between two rounds: what has come since the format, and the counts of its calls
pub record Progress (t : LoopState) (m buf ns inlog : List ℕ) : Type 0 where
  pub session : Session most_frame reply_size formatted t.intake t.drive m buf inlog
  pub counted : t.calls ≡ length session.calls
  pub counts : ns ≡ counters (answered formatted session.calls)

-- and where the input stops, what is known of all of it
pub record Reached (r : LoopState) (m buf ns inlog : List ℕ) : Type 0 where
  pub progress : Progress r m buf ns inlog
  pub whole : WholeInput most_frame reply_size r.intake.stopped progress.session.input progress.session.calls
      (pending_in buf r.intake)

-- ---- one round: while the input goes on, bytes have come or a call was made
pub record RoundMet (t r : LoopState) (m buf ns inlog : List ℕ) : Type 0 where
  pub reached : Reached r m buf ns inlog
  pub grows : r.intake.stopped ≡ None → t.intake.received + t.calls < r.intake.received + r.calls

-- all rounds
pub record ServeMet (r : LoopState) (m buf ns inlog : List ℕ) : Type 0 where
  pub reached : Reached r m buf ns inlog
  pub stopped : goes_on r.intake.stopped ≡ false

-- ---- the program
-- what is put out, of an input whose first bytes the reads brought
abbrev pub Reports : Option Stop → List ℕ → List ℕ → Type 0
Reports None input text = ⊥
-- the reads brought the whole input: it is the input's report
Reports (Some Ended) input text = report input ≡ text
-- and of an input whose start they brought, whatever bytes q were never read
Reports (Some Malformed) input text = (q : List ℕ) → report (input ++ q) ≡ text
-- it could not be read on: the report of the calls made
Reports (Some Unread) input text = Unit {0}

pub record RunMet (r : Printed) (m inlog outlog : List ℕ) : Type 0 where
  -- the bytes that the reads brought, in order
  pub input : List ℕ
  pub came : Logged inlog r.intake.logged input
  -- the calls made: those of the first `taken` bytes, whatever comes later, and the drive after them
  pub calls : List Call
  pub taken : ℕ
  pub within : taken ≤ length input
  pub those : (q : List ℕ)
      → calls_in most_frame reply_size (input ++ q) ≡ calls ++ calls_in most_frame reply_size (drop taken input ++ q)
  pub state : state_of r.drive m ≡ after formatted calls
  pub number : r.calls ≡ length calls
  -- the bytes that were handed to write: their report
  pub text : List ℕ
  pub went : Logged outlog r.logged text
  pub counts : text ≡ report_of (answered formatted calls)
  pub ending : Reports r.intake.stopped input text
