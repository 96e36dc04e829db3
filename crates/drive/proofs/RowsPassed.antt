-- The table of rows in two parts: rows 1 to 6, and from row 7 on.
use mathlib.Core.Path.{◌≡◌, refl, ◌∙◌}
use mathlib.Core.Bool.{false}
use mathlib.Core.List.{List, ◌++◌}
use Prim.Native.Nat.{ℕ}
use Rattle.lemmas.specs.Lists.{every}
use Rattle.lemmas.specs.RowTable.{Row, line, first_row, row_next, rows-passed, rows_met}
use Rattle.rules.specs.Frame.{fields}
use Rattle.rules.specs.Drive.{Drive, refresh}
use Rattle.rules.specs.Scope.{drive_scope}
use Rattle.rules.specs.Rows.{row1, frame_rows, drive_rows, rows}
use Rattle.wire.specs.Parse.{frame_row}

-- ---- the gate's table, where row 1 does not apply
module _ (d : Drive) (m f : List ℕ) (clock : ℕ) (space : List ℕ) (ready : row1 d m ≡ false) where
  abbrev later : List Row
  later = drive_rows (drive_scope (refresh clock d) (fields f).cred) m (fields f) space

  skip : first_row (rows d m f clock space) ≡ first_row (frame_rows f (fields f) ++ later)
  unfolding rows
  skip = row_next (line 1 (row1 d m)) (frame_rows f (fields f) ++ later) ready

  -- none of rows 2 to 6 applies
  pub past_frame : frame_row f ≡ 0 → first_row (rows d m f clock space) ≡ first_row later
  unfolding frame_row frame_rows every
  past_frame z = skip ∙ rows-passed (frame_rows f (fields f)) later refl z

  -- one of them does
  pub by_frame : (frame_row f ≡ 0 → ⊥) → first_row (rows d m f clock space) ≡ frame_row f
  unfolding frame_row
  by_frame z = skip ∙ rows_met (frame_rows f (fields f)) later z
