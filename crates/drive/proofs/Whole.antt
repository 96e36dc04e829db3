-- A drive into which what a frame sees of it is put back is that drive.
use mathlib.Core.Path.{◌≡◌, refl, sym, ap, ◌∙◌}
use mathlib.Core.List.{List, [], ◌∷◌}
use Prim.Native.Nat.{ℕ, zero, suc}
use lib.ListN.{get_or}
use Rattle.lemmas.specs.Lists.{update}
use Rattle.rules.specs.declared.Credential.{Credential}
use Rattle.rules.specs.Frame.{memory_index}
use Rattle.rules.specs.Drive.{Drive, empty_partition}
use Rattle.rules.specs.Scope.{drive_scope, drive_with_scope}

-- ---- one element of a list, changed
module _ {A : Type 0} where
  pub update_to : (i : ℕ) (g : A → A) (l : List A) (d v : A) → g (get_or l i d) ≡ v → update i g l ≡ update i (λ (a : A). v) l
  unfolding update
  update_to i g [] d v e = refl
  update_to zero g (x ∷ l) d v e = ap (λ (a : A). a ∷ l) e
  update_to (suc i) g (x ∷ l) d v e = ap (λ (r : List A). x ∷ r) (update_to i g l d v e)

  update_none : (i : ℕ) (l : List A) → update i (λ (a : A). a) l ≡ l
  unfolding update
  update_none i [] = refl
  update_none zero (x ∷ l) = refl
  update_none (suc i) (x ∷ l) = ap (λ (r : List A). x ∷ r) (update_none i l)

  update_kept : (i : ℕ) (l : List A) (d : A) → update i (λ (a : A). get_or l i d) l ≡ l
  update_kept i l d = sym (update_to i (λ (a : A). a) l d (get_or l i d) refl) ∙ update_none i l

pub restored : (d : Drive) (c : Credential) → drive_with_scope c (drive_scope d c) d ≡ d
restored d c = rw (
  update_kept c.partition d.tables.partitions (empty_partition 0),
  update_kept (memory_index c) d.memories [],
) refl
