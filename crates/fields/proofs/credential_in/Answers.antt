-- `fields::credential_in` meets its contract: the numbers read by the layout are the credential's fields, and each fits its type.
use Rattle.std.proofs.Common.{ℕ, ◌<◌, ◌^◌, get_or, length, ap, ◌∙◌, arith}
use Rattle.rules.specs.Frame.{credential_of, credential_widths}
use Rattle.octets.specs.Fields.{fields-small}
use Rattle.fields.specs.Records.{credential-read}
use Rattle.fields.proofs.credential_in.Goals as goal

small : (c : goal.After-numbers_in-v) (k : ℕ) → get_or c.numbers_in-v.result k 0 < 256 ^ get_or credential_widths k 0
small c k =
    let a = c.args in
    rw c.numbers_in-v.ensures
    (fields-small a.s.now a.at credential_widths (length credential_widths) (λ j. omega (arith, c.type_inv.s j)) k)

pub returns : goal.returns
returns c = let a = c.args in ap credential_of c.numbers_in-v.ensures ∙ credential-read a.s.now a.at

pub overflow_cast-result : goal.overflow_cast-result
overflow_cast-result c = omega (arith, small c 0)

pub overflow_cast-result-2 : goal.overflow_cast-result-2
overflow_cast-result-2 c = omega (arith, small c 1)

pub overflow_cast-result-3 : goal.overflow_cast-result-3
overflow_cast-result-3 c = omega (arith, small c 2)

pub overflow_cast-result-4 : goal.overflow_cast-result-4
overflow_cast-result-4 c = omega (arith, small c 3)

pub overflow_cast-result-5 : goal.overflow_cast-result-5
overflow_cast-result-5 c = omega (arith, small c 4)

pub overflow_cast-result-6 : goal.overflow_cast-result-6
overflow_cast-result-6 c = omega (arith, small c 5)

pub overflow_cast-result-7 : goal.overflow_cast-result-7
overflow_cast-result-7 c = omega (arith, small c 6)

pub overflow_cast-result-8 : goal.overflow_cast-result-8
overflow_cast-result-8 c = omega (arith, small c 7)

pub overflow_cast-result-9 : goal.overflow_cast-result-9
overflow_cast-result-9 c = omega (arith, small c 8)

pub overflow_cast-result-10 : goal.overflow_cast-result-10
overflow_cast-result-10 c = omega (arith, small c 9)

pub overflow_cast-result-11 : goal.overflow_cast-result-11
overflow_cast-result-11 c = omega (arith, small c 11)
