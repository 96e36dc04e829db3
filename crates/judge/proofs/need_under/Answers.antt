-- Document 01's rule, or what the table has at the operation's place.
use mathlib.Core.Path.{◌≡◌, refl, sym, ap, ◌∙◌}
use mathlib.Core.Bool.{true, false, ◌&&◌}
use mathlib.Core.List.{List}
use Prim.Native.Nat.{ℕ, ◌-◌}
use native.Mathlib.Omega.{arith}
use borrow.Author.Tests.{ltb-true}
use Rattle.lemmas.specs.Tests.{◌under◌, and_r}
use Rattle.rules.specs.Needs.{default_need, need_under}
use Rattle.state.specs.Table.{need_in, needs_in}
use Rattle.state.specs.Places.{needs_at_lem}
use Rattle.judge.proofs.need_under.Goals as goal

module _ (t : List ℕ) (slot k : ℕ) where
  by-rule : (slot under 3 && k under 8) ≡ false → need_under (needs_in t) slot k ≡ default_need k
  unfolding need_under
  by-rule e = rw e refl

  by-table : (i : ℕ) → (slot under 3 && k under 8) ≡ true → i ≡ k - 1 → need_under (needs_in t) slot k ≡ need_in t i
  unfolding need_under
  by-table i e p =
      let low = ltb-true k 8 (and_r (slot under 3) (k under 8) e) in
      rw e (needs_at_lem t (k - 1) (default_need k) (omega arith) ∙ ap (need_in t) (sym p))

pub returns-then-not-goes_by_table : goal.returns-then-not-goes_by_table
returns-then-not-goes_by_table c =
    let g = c.goes_by_table in
    let a = c.args in
    c.default_need.ensures
    ∙ sym (by-rule a.table.now a.slot a.k (sym g.ensures ∙ c.if-not-goes_by_table.true))

pub returns : goal.returns
unfolding need_in
returns c =
    let g = c.goes_by_table in
    let a = c.args in
    rw (c.number_at-least.ensures, c.number_at-mask.ensures)
    (sym (by-table a.table.now a.slot a.k c.table_place-i.result
    (sym g.ensures ∙ c.if-not-goes_by_table.false) c.table_place-i.ensures))
