-- `fields::request_in` meets its contract: the numbers read by the layout are the request's fields, and each fits its type.
use mathlib.Core.Path.{ap, ◌∙◌}
use Prim.Native.Nat.{ℕ, ◌<◌, ◌^◌}
use native.Mathlib.Omega.{arith}
use lib.ListN.{get_or}
use Rattle.rules.specs.Frame.{request_of, group_widths}
use Rattle.fields.specs.Records.{request-read, request-small}
use Rattle.fields.proofs.request_in.Goals as goal

small : (c : goal.After-request_numbers-v) (k : ℕ) → get_or c.request_numbers-v.result k 0 < 256 ^ get_or group_widths k 0
small c k =
    let a = c.args in
    rw c.request_numbers-v.ensures (request-small a.s.now a.at (λ j. omega (arith, c.type_inv.s j)) k)

pub returns : goal.returns
returns c =
    let a = c.args in
    ap request_of c.request_numbers-v.ensures ∙ request-read a.s.now a.at

pub overflow_cast-result : goal.overflow_cast-result
overflow_cast-result c =
    omega (arith, small c 0)

pub overflow_cast-result-2 : goal.overflow_cast-result-2
overflow_cast-result-2 c =
    omega (arith, small c 1)

pub overflow_cast-result-3 : goal.overflow_cast-result-3
overflow_cast-result-3 c =
    omega (arith, small c 2)

pub overflow_cast-result-4 : goal.overflow_cast-result-4
overflow_cast-result-4 c =
    omega (arith, small c 4)

pub overflow_cast-result-5 : goal.overflow_cast-result-5
overflow_cast-result-5 c =
    omega (arith, small c 5)

pub overflow_cast-result-6 : goal.overflow_cast-result-6
overflow_cast-result-6 c =
    omega (arith, small c 6)

pub overflow_cast-result-7 : goal.overflow_cast-result-7
overflow_cast-result-7 c =
    omega (arith, small c 7)

pub overflow_cast-result-8 : goal.overflow_cast-result-8
overflow_cast-result-8 c =
    omega (arith, small c 8)
