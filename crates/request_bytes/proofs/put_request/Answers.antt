-- `request_bytes::put_request` meets its contract: by the mark, widths and numbers are the request's layout.
use Rattle.std.proofs.Common.{eq-eqb, ne_eqb}
use Rattle.lemmas.specs.Lists.{every}
use Rattle.lemmas.specs.BigEndian.{layout_size}
use Rattle.rules.specs.Frame.{request_bytes, request_length}
use Rattle.request_bytes.proofs.put_request.Goals as goal

pub returns-then-r-eq-GROUP_MAGIC : goal.returns-then-r-eq-GROUP_MAGIC
unfolding request_bytes request_length every layout_size
returns-then-r-eq-GROUP_MAGIC c = rw (eq-eqb _ _ c.if-r-eq-GROUP_MAGIC.true) (cc c.write.ensures)

pub returns-else-r-eq-GROUP_MAGIC : goal.returns-else-r-eq-GROUP_MAGIC
unfolding request_bytes request_length every layout_size
returns-else-r-eq-GROUP_MAGIC c = rw (ne_eqb _ _ c.if-r-eq-GROUP_MAGIC.false) (cc c.write-else-r-eq-GROUP_MAGIC.ensures)
