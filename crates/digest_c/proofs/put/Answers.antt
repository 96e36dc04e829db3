-- The digest is pasted; a space of under 32 bytes stays.
use Rattle.std.proofs.Common.{rules, ◌≡◌, sym, ◌∙◌, length, arith, length-take-le, take_all}
use borrow.Author.Tests.{le-leb}
use Rattle.digest_c.proofs.put.Goals as goal

pub copy_from_slice-requires : goal.copy_from_slice-requires
copy_from_slice-requires c =
    let n : length c.args.d ≡ 32 = search rules in
    length-take-le 32 c.args.out.now (omega arith) ∙ sym n

pub returns-then-out-ge32 : goal.returns-then-out-ge32
returns-then-out-ge32 c =
    let a = c.args in
    let n : length a.d ≡ 32 = search rules in
    rw (c.copy_from_slice.ensures.after, le-leb _ _ c.if-out-ge32.true, take_all 32 a.d (omega arith))
