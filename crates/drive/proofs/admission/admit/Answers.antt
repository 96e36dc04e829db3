-- Row 7, or what `serve` gave (Admitting).
use mathlib.Core.Path.{◌≡◌, refl, sym, ◌∙◌}
use mathlib.Core.List.{List}
use Prim.Native.Nat.{ℕ}
use native.Mathlib.Omega.{arith}
use Rattle.rules.specs.declared.Credential.{Credential}
use Rattle.rules.specs.declared.Need.{Need}
use Rattle.rules.specs.declared.Request.{Request}
use Rattle.rules.specs.Needs.{need_under}
use Rattle.rules.specs.Rows.{low_level}
use Rattle.wire.specs.Parse.{numbers_of}
use Rattle.state.specs.Table.{needs_in}
use Rattle.drive.proofs.Frames.{starts_hold}
use Rattle.drive.proofs.Admitting.{level_is, seven, refusal-given}
use Rattle.drive.proofs.admission.admit.Goals as goal

-- the level was judged by what the operation needs
same-level : (t : List ℕ) (c : Credential) (n : Need) (r q : Request) → n ≡ need_under (needs_in t) c.slot r.operation → r ≡ q
    → low_level n c r ≡ low_level (need_under (needs_in t) c.slot q.operation) c q
same-level t c n r q e f = rw (e, f) refl

pub returns-then-low_level : goal.returns-then-low_level
returns-then-low_level c l w =
    let a = c.args in
    let q : Request = numbers_of a.p.request in
    let judged : c.low_level.result ≡ low_level (need_under (needs_in a.table.now) a.p.credential.slot q.operation) a.p.credential q =
    c.low_level.ensures
    ∙ same-level a.table.now a.p.credential _ _ q c.need_under-need.ensures c.numbers-r.ensures in
    refusal-given w a.reply.now _ 7
    (seven w a.reply.now (level_is w ∙ sym judged ∙ c.if-low_level.true)) (λ z. omega arith) refl

pub loads_bad_table-bad-requires : goal.loads_bad_table-bad-requires
loads_bad_table-bad-requires c = starts_hold c.requires.1.parsed
