-- `fields::rest_length` meets its contract: its parts are small enough to be added.
use Prim.Native.Nat.{◌≤◌}
use native.Mathlib.Omega.{arith}
use Rattle.rules.specs.Frame.{group_request_size, request_most}
use Rattle.fields.proofs.rest_length.Goals as goal

-- no request is longer than a group's
short : (c : goal.After-struct_known-1) → c.request_length.result ≤ group_request_size
short c = rw c.request_length.ensures (request_most c.args.r)

pub overflow_add-result : goal.overflow_add-result
overflow_add-result c =
    omega (arith, short c)

pub overflow_add-result-2 : goal.overflow_add-result-2
overflow_add-result-2 c =
    omega (arith, short c)
