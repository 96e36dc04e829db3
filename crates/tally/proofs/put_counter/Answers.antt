-- A count of 0 has an empty text, and that is put by doing nothing.
use Rattle.std.proofs.Common.{◌≡◌, refl, sym, subst, List, [], ℕ, eq-eqb}
use Rattle.lines.specs.Text.{TextPut}
use Rattle.tally.specs.Tally.{counter_text}
use Rattle.tally.specs.Laws.{none_put}
use Rattle.tally.proofs.put_counter.Goals as goal

pub returns-then-n-eq0 : goal.returns-then-n-eq0
returns-then-n-eq0 c =
    let a = c.args in
    let e : counter_text a.i a.n ≡ [] = rw (eq-eqb a.n 0 c.if-n-eq0.true) refl in
    subst (λ (t : List ℕ). TextPut a.space.now a.at t a.at a.space.now) (sym e)
    (none_put a.space.now a.at)
