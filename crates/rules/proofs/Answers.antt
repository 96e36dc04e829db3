-- The gate's two answers, for any drive whatever: it grants exactly where no row applies (`exact`), and what a
-- refusal leaves (`demand1`).
use mathlib.Core.Path.{◌∙◌, ◌≡◌, ap, refl, subst, sym}
use mathlib.Core.Logic.{inl, inr}
use mathlib.Core.Bool.{Bool, cond, false, true}
use mathlib.Core.List.{[], ◌++◌, List, map}
use Prim.Native.Nat.{ℕ}
use native.Mathlib.Decide.{ℕ_discrete}
use native.Mathlib.Omega.{arith}
use borrow.Author.Tests.{eq-eqb, ne_eqb}
use lib.ListN.{get_or-map}
use Rattle.lemmas.specs.Lists.{every, keep}
use Rattle.lemmas.specs.RowTable.{clear_zero, first_row, line, numbered, Row, row_isnt, row_next, row_of, zero_clear}
use Rattle.lemmas.specs.Tests.{◌is◌}
use Rattle.rules.specs.Demands.{Demand1, Exact, MarkAndOutlived}
use Rattle.rules.specs.Drive.{Drive, lives, new_high_water, refresh}
use Rattle.rules.specs.Frame.{fields}
use Rattle.rules.specs.Gate.{Answer, Call, gate, granted, after_refusal, refused, whole_answer}
use Rattle.rules.specs.Rows.{drive_rows, frame_rows, gate_rows, row1, rows, scope_rows}
use Rattle.rules.specs.Scope.{drive_scope}

module _ (d : Drive) (m : List ℕ) (c : Call) where
  abbrev table : List Row
  table = rows d m c.frame c.clock c.space

  abbrev fresh : Drive
  fresh = refresh c.clock d

  pub gate-granted : first_row table ≡ 0 → gate d m c
      ≡ whole_answer (fields c.frame).cred fresh (granted (drive_scope fresh (fields c.frame).cred) m (fields c.frame) c.space)
  unfolding gate
  gate-granted e = rw (eq-eqb (first_row table) 0 e) refl

  pub gate-refused : (first_row table ≡ 0 → ⊥) → gate d m c
      ≡ refused (first_row table) (after_refusal (first_row table) c.clock d) m c.space
  unfolding gate
  gate-refused e = rw (ne_eqb (first_row table) 0 e) refl

  -- the row returned is the first that applies
  pub gate-row : (gate d m c).row ≡ first_row table
  unfolding granted
  gate-row = go (ℕ_discrete (first_row table) 0)
    where
      go : Dec (first_row table ≡ 0) → (gate d m c).row ≡ first_row table
      go (yes e) = ap Answer.row (gate-granted e) ∙ sym e
      go (no e) = ap Answer.row (gate-refused e)

  numbers : numbered table ≡ true
  unfolding rows frame_rows drive_rows scope_rows every
  numbers = refl

  -- the table's numbers, in order
  pub in_order : map Row.row table ≡ gate_rows
  unfolding rows frame_rows drive_rows scope_rows
  in_order = refl

  pub exact : Exact d m c
  exact = record {
    grants = (λ e. zero_clear table numbers (sym gate-row ∙ e), λ e. gate-row ∙ clear_zero table e);
    grant = λ e. gate-granted (sym gate-row ∙ e);
    row = gate-row;
  }

  -- ---- demand 1
  -- row 1 returns the very drive
  unchanged : (gate d m c).row ≡ 1 → (gate d m c).drive ≡ d
  unchanged e =
      let r : first_row table ≡ 1 = sym gate-row ∙ e in
      ap Answer.drive (gate-refused (λ z. let k : ◌≡◌ {A = ℕ} 0 1 = sym z ∙ r in omega arith))
      ∙ ap (λ (n : ℕ). after_refusal n c.clock d) r

  -- any other refusal returns it with its new mark
  refreshed : ((gate d m c).row ≡ 0 → ⊥) → ((gate d m c).row ≡ 1 → ⊥) → (gate d m c).drive ≡ fresh
  refreshed e f =
      ap Answer.drive (gate-refused (λ z. e (gate-row ∙ z)))
      ∙ rw (ne_eqb (first_row table) 1 (λ z. f (gate-row ∙ z))) refl

  -- an unchanged drive, and one with its new mark
  same_drive : MarkAndOutlived d d
  same_drive = record { size = refl; keys = refl; partitions = refl; mark = omega arith; memories = λ k. inl refl }

  fresh-drive : MarkAndOutlived d fresh
  unfolding refresh keep
  fresh-drive = record {
    size = refl;
    keys = refl;
    partitions = refl;
    mark = omega arith;
    memories = λ k. inr (get_or-map (keep (lives (new_high_water d.tables.high_water c.clock))) d.memories k []);
  }

  left_drive : (b : Bool) → MarkAndOutlived d (cond b d fresh)
  left_drive true = same_drive
  left_drive false = fresh-drive

  pub demand1 : Demand1 d m c
  demand1 = record {
    row = rw (gate-row, sym in_order) (row_of table);
    length = λ e. ap Answer.length (gate-refused (λ z. e (gate-row ∙ z)));
    space = λ e. ap Answer.space (gate-refused (λ z. e (gate-row ∙ z)));
    medium = λ e. ap Answer.medium (gate-refused (λ z. e (gate-row ∙ z)));
    drive = λ e.
        subst (λ (a : Answer Drive). MarkAndOutlived d a.drive) (sym (gate-refused (λ z. e (gate-row ∙ z))))
        (left_drive (first_row table is 1));
    unchanged = unchanged;
    refreshed = refreshed;
  }

  -- ---- a sound drive and its own medium: row 1 does not apply, and a refusal leaves the new mark
  pub ready_left : row1 d m ≡ false → after_refusal (first_row table) c.clock d ≡ fresh
  unfolding rows frame_rows drive_rows scope_rows every
  ready_left h =
      let rest : List Row = frame_rows c.frame (fields c.frame)
      ++ drive_rows (drive_scope fresh (fields c.frame).cred) m (fields c.frame) c.space in
      let e : (first_row table is 1) ≡ false = ap (λ (n : ℕ). n is 1) (row_next (line 1 (row1 d m)) rest h)
      ∙ row_isnt 1 rest refl refl in
      rw e refl
