-- The gate's answers in three steps: row 1, rows 2 to 6, and from row 7 on; and that each of the code's returns meets it.
use mathlib.Core.Path.{◌≡◌, refl, sym, ap, ◌∙◌}
use mathlib.Core.Bool.{Bool, true, false, cond}
use mathlib.Core.List.{List, ◌++◌}
use Prim.Native.Nat.{ℕ}
use native.Mathlib.Omega.{arith}
use lib.ListN.{length}
use borrow.Author.Tests.{eqb-true, eqb-false}
use Rattle.lemmas.specs.Tests.{◌is◌}
use Rattle.lemmas.specs.Lists.{every}
use Rattle.lemmas.specs.RowTable.{Row, line, first_row, row_here, row_isnt}
use Rattle.rules.specs.Frame.{Fields, fields}
use Rattle.rules.specs.Drive as rules
use Rattle.rules.specs.Drive.{refresh, sound}
use Rattle.rules.specs.declared.Object.{Object}
use Rattle.rules.specs.Scope.{Scope, drive_scope}
use Rattle.rules.specs.Rows.{row1, frame_rows, drive_rows, scope_rows, rows}
use Rattle.rules.specs.Gate as rules_gate
use Rattle.rules.specs.Gate.{Call, gate, granted, refused, after_refusal, whole_answer}
use Rattle.rules.proofs.Answers.{gate-granted, gate-refused, ready_left}
use Rattle.rules.proofs.Keeps.{gate-sound}
use Rattle.wire.specs.Parse.{frame_row}
use Rattle.drive.specs.declared.Drive.{Drive}
use Rattle.drive.specs.Answers.{Answer}
use Rattle.drive.specs.View.{view}
use Rattle.drive.specs.Admission.{scope_answer}
use Rattle.drive.specs.Met.{call_of, GateMet}
use Rattle.drive.proofs.RowsPassed.{past_frame, by_frame}
use Rattle.drive.proofs.Whole.{restored}

-- ---- the rules' answer
module _ (d : rules.Drive) (m f : List ℕ) (clock : ℕ) (space : List ℕ) where
  abbrev c : Call
  c = call_of f clock space

  -- row 1
  pub gate_unready : row1 d m ≡ true → gate d m c ≡ refused 1 d m space
  unfolding rows
  gate_unready h =
      let r : first_row (rows d m f clock space) ≡ 1 = row_here (line 1 (row1 d m))
      (frame_rows f (fields f) ++ drive_rows (drive_scope (refresh clock d) (fields f).cred) m (fields f) space) h in
      gate-refused d m c (λ z. let k : ◌≡◌ {A = ℕ} 0 1 = sym z ∙ r in omega arith)
      ∙ ap (λ (n : ℕ). refused n (after_refusal n clock d) m space) r

  module _ (ready : row1 d m ≡ false) where
    -- rows 2 to 6
    pub gate-framed : (frame_row f ≡ 0 → ⊥) → gate d m c ≡ refused (frame_row f) (refresh clock d) m space
    gate-framed z =
        let r : first_row (rows d m f clock space) ≡ frame_row f = by_frame d m f clock space ready z in
        gate-refused d m c (λ k. z (sym r ∙ k))
        ∙ ap (λ (e : rules.Drive). refused (first_row (rows d m f clock space)) e m space) (ready_left d m c ready)
        ∙ ap (λ (n : ℕ). refused n (refresh clock d) m space) r

    -- row 7 and on
    pub gate-scope-answer : frame_row f ≡ 0 → gate d m c ≡ whole_answer (fields f).cred (refresh clock d)
        (scope_answer (drive_scope (refresh clock d) (fields f).cred) m (fields f) space)
    unfolding scope_answer
    gate-scope-answer z = go (first_row later is 0) refl
      where
        e : rules.Drive
        e = refresh clock d

        s : Scope Object
        s = drive_scope e (fields f).cred

        later : List Row
        later = drive_rows s m (fields f) space

        r : first_row (rows d m f clock space) ≡ first_row later
        r = past_frame d m f clock space ready z

        go : (b : Bool) → (first_row later is 0) ≡ b → gate d m c ≡ whole_answer (fields f).cred e
            (cond b (granted s m (fields f) space) (refused (first_row later) s m space))
        go true h = gate-granted d m c (r ∙ eqb-true (first_row later) 0 h)
        go false h =
            gate-refused d m c (λ k. eqb-false (first_row later) 0 h (sym r ∙ k))
            ∙ ap (λ (e : rules.Drive). refused (first_row (rows d m f clock space)) e m space) (ready_left d m c ready)
            ∙ ap (λ (n : ℕ). refused n e m space) r
            ∙ ap (λ (e : rules.Drive). refused (first_row later) e m space) (sym (restored e (fields f).cred))

-- ---- none of rows 2 on is row 1
pub frame_not_1 : (f : List ℕ) → frame_row f ≡ 1 → ⊥
unfolding frame_row frame_rows every
frame_not_1 f e = eqb-false (frame_row f) 1 (row_isnt 1 (frame_rows f (fields f)) refl refl) e

-- ---- from row 7 on: row 0 where no row applies, and a refusal leaves the drive
module _ (d : Scope Object) (m : List ℕ) (x : Fields) (space : List ℕ) where
  abbrev lowest : ℕ
  lowest = first_row (drive_rows d m x space)

  pub scope-answer_zero : (scope_answer d m x space).row ≡ 0 → lowest ≡ 0
  unfolding scope_answer
  scope-answer_zero e = go (lowest is 0) refl e
    where
      go : (b : Bool) → (lowest is 0) ≡ b → (cond b (granted d m x space) (refused lowest d m space)).row ≡ 0 → lowest ≡ 0
      go true h k = eqb-true lowest 0 h
      go false h k = k

  pub scope-answer-refused : ((scope_answer d m x space).row ≡ 0 → ⊥) → (scope_answer d m x space).drive ≡ d
  unfolding scope_answer granted
  scope-answer-refused z = go (lowest is 0) z
    where
      go : (b : Bool) → ((cond b (granted d m x space) (refused lowest d m space)).row ≡ 0 → ⊥)
          → (cond b (granted d m x space) (refused lowest d m space)).drive ≡ d
      go true k = absurd (k refl)
      go false k = refl

pub drive_not_1 : (d : Scope Object) (m : List ℕ) (x : Fields) (space : List ℕ) → (scope_answer d m x space).row ≡ 1 → ⊥
unfolding scope_answer drive_rows scope_rows every granted
drive_not_1 d m x space e = go (first_row (drive_rows d m x space) is 0) e
  where
    go : (b : Bool) → (cond b (granted d m x space) (refused (first_row (drive_rows d m x space)) d m space)).row ≡ 1 → ⊥
    go true k = let z : ◌≡◌ {A = ℕ} 0 1 = k in omega arith
    go false k = eqb-false (first_row (drive_rows d m x space)) 1 (row_isnt 1 (drive_rows d m x space) refl refl) k

-- ---- a return of the code that is the rules' answer a meets the promise
pub meets : (d : Drive) (m : List ℕ) (c : Call) (r : Answer) (after replied : List ℕ) (a : rules_gate.Answer rules.Drive)
    → gate (view d) m c ≡ a → r.row ≡ a.row → r.length ≡ a.length → view r.drive ≡ a.drive
    → (r.row ≡ 1 → r.drive ≡ d)
    → ((r.row ≡ 0 → ⊥) → (r.drive.keys ≡ d.keys) × (r.drive.tables ≡ d.tables))
    → after ≡ a.medium → replied ≡ a.space → GateMet d m c r after replied
meets d m c r after replied a g row length drive unchanged left medium space = record {
  row = row ∙ sym (ap (λ (b : rules_gate.Answer rules.Drive). b.row) g);
  length = length ∙ sym (ap (λ (b : rules_gate.Answer rules.Drive). b.length) g);
  drive = whole;
  unchanged = unchanged;
  keys = λ z. (left z).0;
  tables = λ z. (left z).1;
  medium = medium ∙ sym (ap (λ (b : rules_gate.Answer rules.Drive). b.medium) g);
  space = space ∙ sym (ap (λ (b : rules_gate.Answer rules.Drive). b.space) g);
  sound = λ h. ap sound whole ∙ gate-sound (view d) m c h;
}
  where
    whole : view r.drive ≡ (gate (view d) m c).drive
    whole = drive ∙ sym (ap (λ (b : rules_gate.Answer rules.Drive). b.drive) g)
