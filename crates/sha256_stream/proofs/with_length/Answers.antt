-- The length field stands at the end of the block.
use Rattle.std.proofs.Common.{rules, ◌≡◌, length, drop, arith, length-drop, drop_of_length-le}
use Rattle.lemmas.specs.BigEndian.{big_endian, digit}
use Rattle.sha256_stream.proofs.with_length.Goals as goal

pub returns : goal.returns
unfolding big_endian digit
returns c =
    let p = c.args.p in
    let lp : length p ≡ 64 = search rules in
    rw (c.copy_from_slice.ensures.after, c.to_be_bytes.ensures, drop_of_length-le (drop 56 p) {i = 8} (omega (arith, length-drop 56 p)))
