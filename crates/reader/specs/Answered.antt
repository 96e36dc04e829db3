-- One call as a program makes it, in the rules' words. The gate sees no more of a reply space than its length, so the space
-- may hold the last reply. d: a drive. m: a medium. f: a frame. s, t, x: reply spaces.
use Rattle.std.specs.Prelude.{◌≡◌, refl, Bool, true, false, cond, List, ℕ, length}
use Rattle.std.proofs.Common.{sym, ◌∙◌}
use Rattle.std.proofs.lemmas.List.{length-replicate}
use Rattle.lemmas.specs.Tests.{◌is◌}
use Rattle.lemmas.specs.RowTable.{first_row}
use Rattle.rules.specs.Frame.{Fields, fields}
use Rattle.rules.specs.Drive as rules
use Rattle.rules.specs.Drive.{refresh}
use Rattle.rules.specs.Rows.{rows, drive_rows}
use Rattle.rules.specs.Gate as rules_gate
use Rattle.rules.specs.Scope.{drive_scope}
use Rattle.rules.specs.Gate.{gate, granted, refused, after_refusal, whole_answer}
use Rattle.rules.specs.Demands.{answer, step}
use Rattle.rules.specs.Program.{call_in, clock_in, frame_in}
use Rattle.drive.specs.declared.Drive.{Drive}
use Rattle.drive.specs.Answers.{Answer}
use Rattle.drive.specs.View.{view}
use Rattle.drive.specs.Chain.{state_of}
use Rattle.drive.specs.Met.{GateMet, call_of}

-- two answers that differ in the reply space at most
record Alike (a b : rules_gate.Answer rules.Drive) : Type 0 where
  row : a.row ≡ b.row
  length : a.length ≡ b.length
  drive : a.drive ≡ b.drive
  medium : a.medium ≡ b.medium

alike_by : (b : Bool) (row : ℕ) (d e : rules.Drive) (m : List ℕ) (x : Fields) (s t : List ℕ)
    → Alike (cond b (whole_answer x.cred d (granted (drive_scope d x.cred) m x s)) (refused row e m s))
    (cond b (whole_answer x.cred d (granted (drive_scope d x.cred) m x t)) (refused row e m t))
unfolding granted
alike_by true row d e m x s t = record { row = refl; length = refl; drive = refl; medium = refl }
alike_by false row d e m x s t = record { row = refl; length = refl; drive = refl; medium = refl }

rows_alike : (d : rules.Drive) (m f : List ℕ) (clock : ℕ) (s t : List ℕ) → length s ≡ length t
    → rows d m f clock s ≡ rows d m f clock t
unfolding rows drive_rows
rows_alike d m f clock s t e = rw e refl

gate_alike : (d : rules.Drive) (m f : List ℕ) (clock : ℕ) (s t : List ℕ) → length s ≡ length t
    → Alike (gate d m (call_of f clock s)) (gate d m (call_of f clock t))
unfolding gate
gate_alike d m f clock s t e =
    let row : ℕ = first_row (rows d m f clock t) in
    rw (rows_alike d m f clock s t e)
    (alike_by (row is 0) row (refresh clock d) (after_refusal row clock d) m (fields f) s t)

-- what the gate promises of the input record at the start of p, put to it with a reply space x
pub record AnsweredMet (d : Drive) (m p x : List ℕ) (r : Answer) (after replied : List ℕ) : Type 0 where
  pub row : r.row ≡ (answer (state_of d m) (call_in (length x) p)).row
  pub size : r.length ≡ (answer (state_of d m) (call_in (length x) p)).length
  pub state : state_of r.drive after ≡ step (state_of d m) (call_in (length x) p)
  pub space : replied ≡ (gate (view d) m (record { frame = frame_in p; clock = clock_in p; space = x })).space

pub answered_met : (d : Drive) (m p x : List ℕ) (r : Answer) (after replied : List ℕ)
    → GateMet d m (call_of (frame_in p) (clock_in p) x) r after replied → AnsweredMet d m p x r after replied
unfolding answer step
answered_met d m p x r after replied g =
    let a = gate_alike (view d) m (frame_in p) (clock_in p) x (call_in (length x) p).space
    (sym (length-replicate {A = ℕ} (length x) 0)) in
    record {
      row = g.row ∙ a.row;
      size = g.length ∙ a.length;
      state = λ i. record { drive = (g.drive ∙ a.drive) i; medium = (g.medium ∙ a.medium) i };
      space = g.space;
    }
