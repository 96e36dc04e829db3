-- `fields::request_length` meets its contract, by the mark.
use borrow.Author.Tests.{eq-eqb, ne_eqb}
use Rattle.rules.specs.Frame.{request_length}
use Rattle.fields.proofs.request_length.Goals as goal

pub returns-then-r-eq-GROUP_MAGIC : goal.returns-then-r-eq-GROUP_MAGIC
unfolding request_length
returns-then-r-eq-GROUP_MAGIC c = rw (eq-eqb _ _ c.if-r-eq-GROUP_MAGIC.true)

pub returns : goal.returns
unfolding request_length
returns c = rw (ne_eqb _ _ c.if-r-eq-GROUP_MAGIC.false)
