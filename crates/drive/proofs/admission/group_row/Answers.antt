-- The part lent is the object's own bytes.
use mathlib.Core.Path.{◌≡◌, ap, ◌∙◌}
use Prim.Native.Nat.{ℕ, ◌*◌, ◌+◌, ◌-◌, ◌/◌, ◌≤◌}
use native.Mathlib.Nat.{mul-le-mul}
use native.Mathlib.Omega.{arith}
use lib.ListN.{take, drop}
use Rattle.lemmas.specs.Lists.{part}
use Rattle.wire.specs.Parse.{numbers_of}
use Rattle.judge.specs.Judge.{list_row}
use borrow.Author.Rules.{rules}
use Rattle.drive.proofs.admission.group_row.Goals as goal

pub overflow_mul-base : goal.overflow_mul-base
overflow_mul-base c =
    let a = c.args in
    let small : a.p.credential.partition * (a.size / 4) ≤ 3 * 4194304 = mul-le-mul {n₁ = a.p.credential.partition} {m₁ = a.size / 4} {n₂ = 3} {m₂ = 4194304} (omega arith) (omega arith) in
    search rules

pub returns : goal.returns
unfolding part
returns c =
    let a = c.args in
    let o = a.found in
    let from : ℕ = c.from.result * (a.size / 4) + o.start in
    let e : from + o.size - from ≡ o.size = omega arith in
    c.list_row.ensures
    ∙ ap (λ (n : ℕ). list_row (take n (drop from a.medium.now)) (numbers_of a.p.request)) e
    ∙ ap (λ (p : ℕ). list_row (take o.size (drop (p * (a.size / 4) + o.start) a.medium.now)) (numbers_of a.p.request)) c.from.ensures
