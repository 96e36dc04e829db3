-- Three bytes are a need (need_of-bytes); past the end it is all zeros (need_past_end).
use Rattle.std.proofs.Common.{arith, ◌∙◌}
use Rattle.needs.specs.TableBytes.{need_of-bytes, need_past_end}
use Rattle.needs.proofs.need_at.Goals as goal

pub returns-then-i-bytes : goal.returns-then-i-bytes
returns-then-i-bytes c =
    let a = c.args in
    need_past_end a.bytes.now a.k c.table_place-i.result c.table_place-i.ensures (omega arith)

pub returns : goal.returns
returns c =
    let low = c.byte_at-low in
    let high = c.byte_at-high in
    let i = c.table_place-i in
    let a = c.args in
    rw c.from-2.ensures
    (need_of-bytes a.bytes.now a.k i.result _ high.result low.result _ i.ensures high.ensures low.ensures c.byte_at.ensures
    (c.from.ensures ∙ c.from_be_bytes.ensures ∙ omega arith))
