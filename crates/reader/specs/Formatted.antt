-- Law: a medium of 65,536 bytes is formatted as document 01's program does it, whatever is in it.
use Rattle.std.specs.Prelude.{◌≡◌, refl, ◌||◌, List, [], ◌∷◌, ℕ, length, replicate}
use Rattle.std.proofs.Common.{sym, subst, ◌∙◌}
use Rattle.std.proofs.lemmas.List.{length-replicate}
use Rattle.lemmas.specs.RowTable.{first_row, line}
use Rattle.lemmas.specs.Tests.{◌is◌, ◌isnt◌, ◌over◌}
use Rattle.rules.specs.Frame.{key_size}
use Rattle.rules.specs.Drive.{format, format_rows, largest_medium}
use Rattle.rules.specs.Program.{formatted}
use Rattle.drive.specs.declared.Drive.{Drive}
use Rattle.drive.specs.View.{view}
use Rattle.drive.specs.Chain.{state_of}

format_same : (m m' : List ℕ) (F : ℕ) (master key : List ℕ) → length m ≡ length m'
    → first_row (format_rows m F master key) ≡ 0
    → ((format m F master key).drive ≡ (format m' F master key).drive)
    × ((format m F master key).medium ≡ (format m' F master key).medium)
unfolding format format_rows
format_same m m' F master key e z =
    let z' : first_row (format_rows m' F master key) ≡ 0 =
    subst (λ (k : ℕ). first_row (line 24 (k over largest_medium) ∷ line 25 (F is 0)
    ∷ line 26 (length master isnt key_size || length key isnt key_size) ∷ []) ≡ 0) e z in
    (rw (z, z', e) refl, rw (z, z', e) refl)

row_none : (m : List ℕ) → length m ≡ 65_536 → first_row (format_rows m 1 (replicate 32 0) (replicate 32 1)) ≡ 0
unfolding format_rows first_row
row_none m h = rw h refl

pub formatted_by : (m : List ℕ) (d : Drive) (after : List ℕ) → length m ≡ 65_536
    → view d ≡ (format m 1 (replicate 32 0) (replicate 32 1)).drive
    → after ≡ (format m 1 (replicate 32 0) (replicate 32 1)).medium
    → state_of d after ≡ formatted
formatted_by m d after e ed em =
    let s = format_same m (replicate 65_536 0) 1 (replicate 32 0) (replicate 32 1)
    (e ∙ sym (length-replicate {A = ℕ} 65_536 0)) (row_none m e) in
    λ i. record { drive = (ed ∙ s.0) i; medium = (em ∙ s.1) i }
