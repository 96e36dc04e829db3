-- Refused or made, what the rules say (refused, made); row 26 is that of the keys (lent).
use mathlib.Core.Path.{◌≡◌, refl, sym, ap, ◌∙◌}
use mathlib.Core.Bool.{false, ◌||◌}
use mathlib.Core.Option.{some}
use mathlib.Core.List.{List}
use Prim.Native.Nat.{ℕ}
use lib.ListN.{length, replicate}
use lib.Dec.{eqb}
use borrow.Author.Tests.{ne_eqb, eqb-true, not-false}
use Rattle.lemmas.specs.Lists.{every}
use Rattle.lemmas.specs.RowTable.{first_row, applies, none_applies}
use Rattle.lemmas.specs.Tests.{◌isnt◌, or_l, or_r}
use Rattle.rules.specs.Refusals.{refusal_row}
use Rattle.rules.specs.Drive.{Formatted, format, format_rows, new_drive, new_tables, no_drive}
use Rattle.keyring.specs.Keys.{keys_in}
use Rattle.keyring.specs.KeyLaws.{keys_none, fresh_set}
use Rattle.drive.proofs.Admitting.{row_not_zero}
use Rattle.drive.proofs.format.Goals as goal

module _ (m : List ℕ) (F : ℕ) (master key : List ℕ) where
  refused : (row : ℕ) → row ≡ first_row (format_rows m F master key) → (row ≡ 0 → ⊥)
      → format m F master key ≡ record { row = row; drive = no_drive; medium = m }
  unfolding format
  refused row e n = rw (← e, ne_eqb row 0 n)

  made : 0 ≡ first_row (format_rows m F master key) → format m F master key ≡ record {
    row = 0;
    drive = new_drive (length m) (new_tables F (some master) (some key));
    medium = replicate (length m) 0;
  }
  unfolding format
  made e = rw (← e)

  lent : 0 ≡ first_row (format_rows m F master key) → (length master ≡ 32) × (length key ≡ 32)
  unfolding format_rows applies every
  lent e =
      let no : (length master isnt 32 || length key isnt 32) ≡ false = none_applies (format_rows m F master key) refl (sym e) 26 in (
        eqb-true (length master) 32 (not-false (eqb (length master) 32) (or_l (length master isnt 32) (length key isnt 32) no)),
        eqb-true (length key) 32 (not-false (eqb (length key) 32) (or_r (length master isnt 32) (length key isnt 32) no)),
      )

pub returns-in-Err : goal.returns-in-Err
unfolding format_rows
returns-in-Err c =
    let a = c.args in
    let r = refusal_row c.in-Err.refusal in
    let e = refused a.medium.now a.first a.master.now a.key.now r c.in-Err.ensures (row_not_zero c.in-Err.refusal) in
    record {
      row = ap (λ (x : Formatted). x.row) (sym e);
      drive = (rw keys_none at c.new_drive-drive.ensures) ∙ ap (λ (x : Formatted). x.drive) (sym e);
      medium = ap (λ (x : Formatted). x.medium) (sym e);
    }

pub returns : goal.returns
unfolding format_rows
returns c =
    let a = c.args in
    let zero = c.in_default.ensures in
    let e = made a.medium.now a.first a.master.now a.key.now zero in
    let long = lent a.medium.now a.first a.master.now a.key.now zero in
    let keys = ap keys_in c.new_keys-keys.ensures ∙ fresh_set a.master.now a.key.now long.0 long.1 in
    record {
      row = ap (λ (x : Formatted). x.row) (sym e);
      drive = (rw keys at c.new_drive-drive-2.ensures) ∙ ap (λ (x : Formatted). x.drive) (sym e);
      medium = c.clear_all.ensures ∙ ap (λ (x : Formatted). x.medium) (sym e);
    }
