-- The block with the length field at its end is the last one.
use Rattle.std.proofs.Common.{◌≡◌, ◌++◌, length, take, ap, ◌∙◌, arith, length-append, length-take-le, take_all, rules}
use Rattle.lemmas.specs.BigEndian.{big_endian, length-big_endian}
use Rattle.sha256_block.specs.Sha256.{bytes, compress}
use Rattle.sha256_stream.proofs.ended.Goals as goal

pub returns : goal.returns
returns c =
    let a = c.args in
    let q = take 56 a.p ++ big_endian 8 a.bits in
    let lp : length a.p ≡ 64 = search rules in
    let lq : length q ≡ 64 =
    length-append (take 56 a.p) (big_endian 8 a.bits)
    ∙ rw (length-take-le 56 a.p (omega arith), length-big_endian 8 a.bits) in
    c.bytes_of.ensures
    ∙ ap bytes c.compress.ensures
    ∙ ap (λ k. bytes (compress a.chain (take 64 k))) c.with_length-last.ensures
    ∙ ap (λ k. bytes (compress a.chain k)) (take_all 64 q (omega arith))
