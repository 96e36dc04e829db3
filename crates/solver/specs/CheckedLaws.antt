-- From what the reply check promises to what the solver gets.
use Rattle.std.proofs.Common.{◌∙◌}
use Rattle.std.specs.Prelude.{◌≡◌, List, ℕ}
use Rattle.std.proofs.Math.Path.{sym}
use Rattle.std.proofs.Math.ListN.{length}
use Rattle.lemmas.specs.RowTable.{first_row}
use Rattle.rules.specs.Client.{check_rows}
use Rattle.rules.specs.Operations.{head_size}
use Rattle.reply_check.specs.CheckLaws.{check-row_is, found-start, refused_none}
use Rattle.reply_check.specs.Met.{CheckMet, Slice, place_after}
use Rattle.solver.specs.declared.ReplyChecked.{ReplyChecked}
use Rattle.solver.specs.Exported.{checked_of}

module _ (a b k : List ℕ) (s : Slice) (row : ℕ) (p : Slice) (m : CheckMet a b k s row p) where
  is_row : row ≡ first_row (check_rows a b k s.now)
  is_row = m.row ∙ check-row_is a b k s.now

  pub checked_granted : row ≡ 0
      → ◌≡◌ {A = ReplyChecked} (record { row = 0; start = head_size; length = length p.now }) (checked_of a b k s.now)
  unfolding checked_of
  checked_granted e =
      let z : first_row (check_rows a b k s.now) ≡ 0 = sym is_row ∙ e in
      λ i. record { row = (sym e ∙ m.row) i; start = sym (found-start a b k s.now z) i; length = m.length i }

  pub checked_refused : (row ≡ 0 → ⊥)
      → ◌≡◌ {A = ReplyChecked} (record { row = row; start = 0; length = 0 }) (checked_of a b k s.now)
  unfolding checked_of
  checked_refused n =
      let z : first_row (check_rows a b k s.now) ≡ 0 → ⊥ = λ e. n (is_row ∙ e) in
      let none = refused_none a b k s.now z in
      λ i. record { row = m.row i; start = sym none.0 i; length = sym none.1 i }

  -- the start and the length that the solver gets are those of the part that the reply check returned
  pub checked_part : (p.ref_ptr ≡ place_after s (checked_of a b k s.now).start) × (length p.now ≡ (checked_of a b k s.now).length)
  unfolding checked_of
  checked_part = (m.start, m.length)
