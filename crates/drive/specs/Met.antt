-- The promises of format and gate: each an equation with document 01's own definition of the call.
use Rattle.std.specs.Prelude.{◌≡◌, true, List, ℕ}
use Rattle.rules.specs.Drive as rules
use Rattle.rules.specs.Gate as rules_gate
use Rattle.rules.specs.Gate.{Call}
use Rattle.drive.specs.declared.Drive.{Drive}
use Rattle.drive.specs.Answers.{Answer, Formatted}
use Rattle.drive.specs.View.{view}

-- format, of the medium m, first version F, master and drive key: row, drive and medium, refusals too
pub record FormatMet (m : List ℕ) (F : ℕ) (master key : List ℕ) (r : Formatted) (after : List ℕ) : Type 0 where
  pub row : r.row ≡ (rules.format m F master key).row
  pub drive : view r.drive ≡ (rules.format m F master key).drive
  pub medium : after ≡ (rules.format m F master key).medium

-- a call of the gate: a frame, a clock reading and a reply space
abbrev pub call_of : List ℕ → ℕ → List ℕ → Call
call_of f clock s = record { frame = f; clock = clock; space = s }

-- the gate, of a drive, a medium m and a call (frame, clock reading, reply space): row, reply length, drive, medium and
-- reply space, refusals too
pub record GateMet (d : Drive) (m : List ℕ) (c : Call) (r : Answer) (after replied : List ℕ) : Type 0 where
  pub row : r.row ≡ (rules_gate.gate (view d) m c).row
  pub length : r.length ≡ (rules_gate.gate (view d) m c).length
  pub drive : view r.drive ≡ (rules_gate.gate (view d) m c).drive
  -- row 1: "it comes back unchanged", the very record
  pub unchanged : r.row ≡ 1 → r.drive ≡ d
  -- any refusal: keys and tables are the very ones that came, with what no rule sees of them
  pub keys : (r.row ≡ 0 → ⊥) → r.drive.keys ≡ d.keys
  pub tables : (r.row ≡ 0 → ⊥) → r.drive.tables ≡ d.tables
  pub medium : after ≡ (rules_gate.gate (view d) m c).medium
  pub space : replied ≡ (rules_gate.gate (view d) m c).space
  -- a sound drive stays sound
  pub sound : rules.sound (view d) ≡ true → rules.sound (view r.drive) ≡ true
