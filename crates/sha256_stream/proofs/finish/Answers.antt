-- The padding by cases, a last block of 0 to 55 bytes and one of 56 to 63: finish_one and finish-two.
use Rattle.std.proofs.Common.{◌≡◌, ◌*◌, ◌%◌, ◌^◌, ◌++◌, length, take, replicate, refl, ap, ◌∙◌, arith, rules}
use Rattle.lemmas.specs.BigEndian.{big_endian}
use Rattle.sha256_block.specs.Sha256.{bytes, compress}
use Rattle.sha256_stream.proofs.Padding.{finish_one, finish-two}
use Rattle.sha256_stream.proofs.finish.Goals as goal

pub returns-then-used-le-MOST_WITH_LENGTH : goal.returns-then-used-le-MOST_WITH_LENGTH
returns-then-used-le-MOST_WITH_LENGTH c =
    let h = c.args.h in
    let l : length h.pending ≡ 64 = search rules in
    let only = c.marked-only in
    c.ended.ensures
    ∙ finish_one h l (h.total * 8 % 2 ^ 64) refl only.result (omega (arith, c.if-used-le-MOST_WITH_LENGTH.true)) only.ensures

pub returns : goal.returns
returns c =
    let h = c.args.h in
    let l : length h.pending ≡ 64 = search rules in
    let b = h.total * 8 % 2 ^ 64 in
    let full = c.marked-full in
    c.ended-2.ensures
    ∙ ap (λ k. bytes (compress k (take 56 (replicate 64 0) ++ big_endian 8 b))) c.compress-first.ensures
    ∙ finish-two h l b refl full.result (omega (arith, c.if-used-le-MOST_WITH_LENGTH.false)) full.ensures
