-- With no outlived time all stays as it is (none_outlived); else the entries are moved.
use Rattle.std.proofs.Common.{sym, ◌∙◌}
use Rattle.memory.specs.Entries.{entries-count, none_outlived}
use Rattle.memory.proofs.purge.Goals as goal

pub returns-then-not-stale : goal.returns-then-not-stale
returns-then-not-stale c =
    let k = c.whole_entries-n in
    let a = c.args in
    let es = a.entries.now in
    let ts = a.times.now in
    none_outlived es ts a.mark k.result (k.ensures ∙ sym (entries-count es ts))
    (sym c.stale.ensures ∙ c.if-not-stale.true)
