-- The customer's demands 1 and 3 over the code's own contract: of any calls of format and gate that keep their
-- promises (`FormatMet`, `GateMet`), and of nothing else. Proved in proofs/: `demand1`, `demand3`.
-- s: drive and medium. c: a call made. l: a ledger. M: the medium's size.
use Rattle.std.specs.Prelude.{◌≡◌, ◌⊎◌, ℕ, length}
use mathlib.Core.List.{[], ◌++◌, ◌∷◌, List, Memᴰ, map}
use Rattle.lemmas.specs.Lists.{part}
use Rattle.lemmas.specs.RowTable.{first_row}
use Rattle.rules.specs.Demands.{Agrees, call_fields, call_operation, MarkAndOutlived, nonce, State}
use Rattle.rules.specs.Drive.{refresh}
use Rattle.rules.specs.declared.Operation.TheVariants.{Read}
use Rattle.rules.specs.Gate.{Call}
use Rattle.rules.specs.Ledger.{bare_scope, bytes_of, clocked, Fed, Ledger, ledger, ledger_group, ledger_scope, ledger_start}
use Rattle.rules.specs.Operations.{head_size}
use Rattle.rules.specs.Rows.{bounds, gate_rows}
use Rattle.drive.specs.declared.Drive.{Drive}
use Rattle.drive.specs.Answers.{Answer, Formatted}
use Rattle.drive.specs.View.{view}
use Rattle.drive.specs.Met.{FormatMet, GateMet}

-- ---- one call made: what it brought (frame, clock reading, reply space), what it returned, and what it left of the
-- medium and of the reply space
pub record CallMade : Type 0 where
  pub call : Call
  pub answer : Answer
  pub medium : List ℕ
  pub space : List ℕ

abbrev pub Granted : CallMade → Type 0
Granted c = c.answer.row ≡ 0

-- ---- a list of calls
-- drive and medium, as a call left them
pub record DriveState : Type 0 where
  pub drive : Drive
  pub medium : List ℕ

abbrev pub left_by_call : CallMade → DriveState
left_by_call c = record { drive = c.answer.drive; medium = c.medium }

-- as the last call left them
unfoldable pub after : DriveState → List CallMade → DriveState
after s [] = s
after s (c ∷ cs) = after (left_by_call c) cs

-- "Each call gets the drive that the last one returned and the medium as it left it, with a frame, a reading and a
-- reply space of its own": each keeps the gate's promise with these
abbrev pub CallMet : DriveState → CallMade → Type 0
CallMet s c = GateMet s.drive s.medium c.call c.answer c.medium c.space

unfoldable pub Chain : DriveState → List CallMade → Type 0
Chain s [] = Unit {0}
Chain s (c ∷ cs) = CallMet s c × Chain (left_by_call c) cs

-- "The list starts from drive and medium of a format that returned row 0."
pub record MadeFromFormat (medium : List ℕ) (F : ℕ) (master key : List ℕ) (r : Formatted) (zeroed : List ℕ)
    (calls : List CallMade) : Type 0 where
  pub format : FormatMet medium F master key r zeroed
  pub row : r.row ≡ 0
  pub chain : Chain (record { drive = r.drive; medium = zeroed }) calls

-- ---- the ledger: fed "each call's frame, clock reading and row; nothing comes from the drive record"
abbrev pub fed_by : CallMade → Fed
fed_by c = record { frame = c.call.frame; clock = c.call.clock; row = c.answer.row }

abbrev pub ledger_after_calls : ℕ → Ledger → List CallMade → Ledger
ledger_after_calls M l before = ledger M l (map fed_by before)

-- ---- demand 1, of one call put to the drive and the medium s
pub record Demand1 (s : DriveState) (c : CallMade) : Type 0 where
  -- "gets a grant or one row number from document 01"; document 02 adds its own
  pub row : (c.answer.row ≡ 0) ⊎ Memᴰ c.answer.row gate_rows
  -- "A refusal writes no byte of the reply space or the medium"
  pub length : (Granted c → ⊥) → c.answer.length ≡ 0
  pub space : (Granted c → ⊥) → c.space ≡ c.call.space
  pub medium : (Granted c → ⊥) → c.medium ≡ s.medium
  -- "and in the drive it moves only the time mark and drops entries that the mark has outlived"
  pub drive : (Granted c → ⊥) → MarkAndOutlived (view s.drive) (view c.answer.drive)
  -- row 1: "it comes back unchanged, mark included", the very record
  pub unchanged : c.answer.row ≡ 1 → c.answer.drive ≡ s.drive
  -- any other row: the drive with the mark that this call sets, in each memory exactly the entries that it has not outlived
  pub refreshed : (Granted c → ⊥) → (c.answer.row ≡ 1 → ⊥)
      → view c.answer.drive ≡ refresh c.call.clock (view s.drive)
  -- and the record's keys and tables are the very ones that came
  pub keys : (Granted c → ⊥) → c.answer.drive.keys ≡ s.drive.keys
  pub tables : (Granted c → ⊥) → c.answer.drive.tables ≡ s.drive.tables

-- "Whoever sends a frame, of any length and content, with any clock reading and any space for the reply"
abbrev pub AllOfDemand1 : Type 0
AllOfDemand1 = (s : DriveState) (c : CallMade) → CallMet s c → Demand1 s c

-- ---- demand 3
-- a drive and a medium as the rules see them
abbrev pub state_of : Drive → List ℕ → State
state_of d m = record { drive = view d; medium = m }

abbrev pub viewed : DriveState → State
viewed s = state_of s.drive s.medium

-- all of demand 3, of the calls made from drive and medium s on, M bytes, with the ledger that starts as l
pub record Demand3 (M : ℕ) (s : DriveState) (l : Ledger) (calls : List CallMade) : Type 0 where
  -- "No two grants in the whole list share nonce memory, key slot, holder, time and count." Change 2 of document 02, which
  -- holds now and lets grants for two objects share these: "What a list of grants never repeats is then nonce memory, slot,
  -- holder, time, count and object together."
  pub no_repeat : (before between later : List CallMade) (b c : CallMade)
      → calls ≡ before ++ (b ∷ (between ++ (c ∷ later)))
      → Granted b
      → Granted c
      → nonce b.call ≡ nonce c.call → ⊥
  -- "Each grant is within its credential's rights, expiry and .. range. It is under the key and .. the version
  -- that the format or earlier grants put there": rows 8–10 and 13–17, by the ledger before the call with the mark
  -- that this call sets. Change 5 of document 02: "a grant keeps to the table that earlier grants loaded": row 7 as well. Change 6:
  -- "Demand 3 judges rows 32 to 34 as well", by the ledger's own bytes of the group
  pub kept : (before later : List CallMade) (c : CallMade)
      → calls ≡ before ++ (c ∷ later)
      → Granted c
      → let t = ledger_scope M (clocked c.call.clock (ledger_after_calls M l before)) (call_fields c.call).cred in
      first_row (bounds (bare_scope t) (ledger_group t (call_fields c.call).cred) (call_fields c.call)) ≡ 0
  -- "Each granted read shows, for every byte, exactly the last granted write to it since that object's creation, or
  -- zero": after the reply's head, the bytes from A up to A + B of the ledger's object, under a group credential of the member
  pub shown : (before later : List CallMade) (c : CallMade) (A B : ℕ)
      → calls ≡ before ++ (c ∷ later)
      → Granted c
      → call_operation c.call ≡ Read A B
      → part c.space head_size B ≡ part (bytes_of (ledger_after_calls M l before) (call_fields c.call)) A B
  -- "After every call the drive holds exactly the objects that the grants so far left, their areas disjoint and each
  -- inside its own partition." And before the first
  pub agrees : (before later : List CallMade) → calls ≡ before ++ later
      → Agrees M (viewed (after s before)) (ledger_after_calls M l before)

-- for every format that returned row 0 and every list of calls, "whatever the frames say, whatever the clock does and
-- whatever spaces are lent"
abbrev pub AllOfDemand3 : Type 0
AllOfDemand3 =
    (medium : List ℕ) (F : ℕ) (master key : List ℕ) (r : Formatted) (zeroed : List ℕ) (calls : List CallMade)
    → MadeFromFormat medium F master key r zeroed calls
    → Demand3 (length medium) (record { drive = r.drive; medium = zeroed }) (ledger_start F master key) calls
