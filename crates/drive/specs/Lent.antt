-- A drive whose record the caller lends in parts: the record that they make; the gate's promise over it is `GateMet` of that
-- record before and after. Demands 1 and 3, the story and the theorems beside them, of lists of such calls: proved in proofs/,
-- `lent_demand1`, `lent_demand3`, `lent_story`, `lent_only_repeats`, `lent-places`, `lent_on_steps`, `lent-table_moves`,
-- `lent_good_reached`.
-- s: drive and medium. c: a lent call.
use Rattle.std.specs.Prelude.{◌≡◌, [], ◌∷◌, List, map, ◌*◌, ℕ, length}
use Rattle.rules.specs.Gate.{Call}
use Rattle.rules.specs.Ledger.{ledger_start}
use Rattle.keyring.specs.Keys.{keys_size, partition_count}
use Rattle.state.specs.Table.{table_size}
use Rattle.memory.specs.Memory.{memory_count, memory_places, entry_size}
use Rattle.drive.specs.declared.Drive.{Drive}
use Rattle.drive.specs.Answers.{Answer, Formatted}
use Rattle.drive.specs.Met.{FormatMet, GateMet}
use Rattle.drive.specs.Chain.{CallMade, Demand1, Demand3, DriveState}
use Rattle.drive.specs.ChainStory.{Story}
use Rattle.drive.specs.ChainRepeats.{OnlyRepeats}
use Rattle.drive.specs.ChainSteps.{OnSteps, Places}
use Rattle.drive.specs.ChainTables.{GoodReached, TableMoves}
use Rattle.drive.specs.ChainGroups.{ThroughGroup}

-- ---- parts
-- the record that parts make: M, the mark, keys, tables, and the memories' lengths, entries and times
abbrev pub record_of : ℕ → ℕ → List ℕ → List ℕ → List ℕ → List ℕ → List ℕ → Drive
record_of size mark keys tables lengths entries times = record {
  size = size;
  highwater = mark;
  keys = keys;
  tables = tables;
  lengths = lengths;
  entries = entries;
  times = times;
}

-- the gate's answer and format's, of their numbers and a record
abbrev pub answer_with : ℕ → ℕ → Drive → Answer
answer_with row length d = record { row = row; length = length; drive = d }

abbrev pub formatted_with : ℕ → Drive → Formatted
formatted_with row d = record { row = row; drive = d }

-- parts as long as a record's
pub record PartsFit (ks ps ns es ts : List ℕ) : Type 0 where
  pub keys : length ks ≡ keys_size
  pub tables : length ps ≡ partition_count * table_size
  pub lengths : length ns ≡ memory_count
  pub entries : length es ≡ entry_size * memory_places
  pub times : length ts ≡ memory_places

-- ---- a list of lent calls
-- one of them: what it brought (frame, clock reading, reply space), its row and reply length, and what it left of the record
-- that the parts make, of the medium and of the reply space
pub record LentCall : Type 0 where
  pub call : Call
  pub row : ℕ
  pub length : ℕ
  pub drive : Drive
  pub medium : List ℕ
  pub space : List ℕ

-- it keeps the gate's promise with the record and the medium that it was lent
abbrev pub LentMet : DriveState → LentCall → Type 0
LentMet s c =
    GateMet s.drive s.medium c.call (answer_with c.row c.length c.drive) c.medium c.space

-- each call is lent what the last one left
abbrev pub left_by_lent : LentCall → DriveState
left_by_lent c = record { drive = c.drive; medium = c.medium }

unfoldable pub LentChain : DriveState → List LentCall → Type 0
LentChain s [] = Unit {0}
LentChain s (c ∷ cs) = LentMet s c × LentChain (left_by_lent c) cs

-- from the record d and the medium of a format that returned row 0
pub record LentFromFormat (medium : List ℕ) (F : ℕ) (master key : List ℕ) (d : Drive) (zeroed : List ℕ) (calls : List LentCall)
    : Type 0 where
  pub format : FormatMet medium F master key (formatted_with 0 d) zeroed
  pub chain : LentChain (record { drive = d; medium = zeroed }) calls

-- ---- the demands, as of calls on a record
abbrev pub made_from : LentCall → CallMade
made_from c = record {
  call = c.call;
  answer = answer_with c.row c.length c.drive;
  medium = c.medium;
  space = c.space;
}

abbrev pub AllOfLentDemand1 : Type 0
AllOfLentDemand1 = (s : DriveState) (c : LentCall) → LentMet s c → Demand1 s (made_from c)

abbrev pub AllOfLentDemand3 : Type 0
AllOfLentDemand3 =
    (medium : List ℕ) (F : ℕ) (master key : List ℕ) (d : Drive) (zeroed : List ℕ) (calls : List LentCall)
    → LentFromFormat medium F master key d zeroed calls
    → Demand3 (length medium) (record { drive = d; medium = zeroed }) (ledger_start F master key) (map made_from calls)

abbrev pub AllOfLentStory : Type 0
AllOfLentStory =
    (medium : List ℕ) (F : ℕ) (master key : List ℕ) (d : Drive) (zeroed : List ℕ) (calls : List LentCall)
    → LentFromFormat medium F master key d zeroed calls
    → Story (length medium) (ledger_start F master key) (map made_from calls)

abbrev pub AllOfLentOnlyRepeats : Type 0
AllOfLentOnlyRepeats =
    (medium : List ℕ) (F : ℕ) (master key : List ℕ) (d : Drive) (zeroed : List ℕ) (calls : List LentCall)
    → LentFromFormat medium F master key d zeroed calls → OnlyRepeats (map made_from calls)

abbrev pub AllOfLentPlaces : Type 0
AllOfLentPlaces = (s : DriveState) (c : LentCall) → LentMet s c → Places s (made_from c)

abbrev pub AllOfLentOnSteps : Type 0
AllOfLentOnSteps =
    (medium : List ℕ) (F : ℕ) (master key : List ℕ) (d : Drive) (zeroed : List ℕ) (calls : List LentCall)
    → LentFromFormat medium F master key d zeroed calls → OnSteps (record { drive = d; medium = zeroed }) (map made_from calls)

abbrev pub AllOfLentTableMoves : Type 0
AllOfLentTableMoves = (s : DriveState) (c : LentCall) → LentMet s c → TableMoves s (made_from c)

abbrev pub AllOfLentThroughGroup : Type 0
AllOfLentThroughGroup = (s : DriveState) (c : LentCall) → LentMet s c → ThroughGroup s (made_from c)

abbrev pub AllOfLentGoodReached : Type 0
AllOfLentGoodReached =
    (medium : List ℕ) (F : ℕ) (master key : List ℕ) (d : Drive) (zeroed : List ℕ) (calls : List LentCall)
    → LentFromFormat medium F master key d zeroed calls → GoodReached (record { drive = d; medium = zeroed }) (map made_from calls)
