-- What the gate and format answer, in document 01's numbers: "A grant returns 0", else the row; and the drive.
use Rattle.std.specs.Prelude.{ℕ}
use Rattle.drive.specs.declared.Drive.{Drive}

-- row 0 and the reply's length, or the row and 0; and the drive after the call
pub record Answer : Type 0 where
  pub row : ℕ
  pub length : ℕ
  pub drive : Drive

-- row 0 or the row, and the drive
pub record Formatted : Type 0 where
  pub row : ℕ
  pub drive : Drive
