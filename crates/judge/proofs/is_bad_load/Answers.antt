-- Another operation loads no table.
use borrow.Author.Tests.{eq-eqb, ne_eqb}
use Rattle.rules.specs.Rows.{row31}
use Rattle.judge.proofs.is_bad_load.Goals as goal

pub returns-then-r-eq8 : goal.returns-then-r-eq8
unfolding row31
returns-then-r-eq8 c = rw (eq-eqb c.args.r.operation 8 c.if-r-eq8.true, c.is_good.ensures)

pub returns-else-r-eq8 : goal.returns-else-r-eq8
unfolding row31
returns-else-r-eq8 c = rw (ne_eqb c.args.r.operation 8 c.if-r-eq8.false)
