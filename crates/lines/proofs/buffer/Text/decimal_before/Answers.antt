-- The loop's invariant: the digits still to come and then the text so far are the number and then the text before.
use mathlib.Core.Path.{◌≡◌, refl, sym, ap, ap₂, ◌∙◌, subst}
use mathlib.Core.List.{List, ◌++◌}
use Prim.Native.Nat.{ℕ, suc, ◌-◌, ◌^◌, ◌/◌, ◌<◌}
use native.Mathlib.Omega.{arith}
use lib.ListN.{drop, set, length-set}
use borrow.Author.Rules.{rules}
use Rattle.rules.specs.Program.{digits}
use Rattle.lines.specs.Decimal.{digit-stored, digit-stored_first, digits_left}
use Rattle.lines.proofs.buffer.Text.decimal_before.Invariants.{left}
use Rattle.lines.proofs.buffer.Text.decimal_before.Goals as goal

pub loop-rest-init : goal.loop-rest-init
loop-rest-init c =
    let a = c.args in
    let e : left (a.self.from - 1) (a.self.from - 1) ≡ 19 = omega arith in
    (omega arith, omega arith, search rules, rw e (omega arith), rw e refl)

pub overflow_sub-i-in-loop-rest : goal.overflow_sub-i-in-loop-rest
overflow_sub-i-in-loop-rest c =
    let l = c.loop-rest in
    let a = c.args in
    omega (arith, digits_left (left (a.self.from - 1) l.i) l.rest (omega arith) l.invariant.3)

pub loop-rest-preserved : goal.loop-rest-preserved
loop-rest-preserved c =
    let l = c.loop-rest in
    let a = c.args in
    let f : ℕ = left (a.self.from - 1) l.i in
    let more : (0 < f) × (l.rest / 10 < 10 ^ f) = digits_left f l.rest (omega arith) l.invariant.3 in
    let e : suc (left (a.self.from - 1) (l.i - 1)) ≡ f = omega (arith, more.0) in
    let one : suc (l.i - 1) ≡ l.i = omega (arith, more.0) in
    let w : List ℕ = digits 20 a.n ++ drop (suc (a.self.from - 1)) a.self.bytes in
    let text : digits f (l.rest / 10) ++ drop l.i (set l.bytes l.i c.digit.result) ≡ w =
    rw c.digit.ensures (digit-stored f l.rest l.i l.bytes w (omega arith) (omega arith) l.invariant.4) in (
      omega arith,
      omega (arith, more.0),
      simp length-set l.invariant.2,
      subst (λ (k : ℕ). l.rest / 10 < 10 ^ k) (sym e) more.1,
      (ap₂ (λ (k j : ℕ). digits k (l.rest / 10) ++ drop j (set l.bytes l.i c.digit.result)) e one) ∙ text,
    )

pub returns : goal.returns
returns c =
    let l = c.loop-rest in
    let a = c.args in
    let one : suc (a.self.from - 1) ≡ a.self.from = omega arith in (
      rw c.digit-2.ensures
          (digit-stored_first (left (a.self.from - 1) l.i) l.rest l.i l.bytes
          (digits 20 a.n ++ drop (suc (a.self.from - 1)) a.self.bytes) (omega arith) (omega arith) l.invariant.4
          ∙ ap (λ (k : ℕ). digits 20 a.n ++ drop k a.self.bytes) one),
      omega arith,
      omega arith,
    )
