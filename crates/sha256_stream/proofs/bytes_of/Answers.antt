-- By joined_step, and joined_bytes at the end.
use Rattle.std.proofs.Common.{◌≡◌, sym, ap, length, length-append, length-drop, length-take, refl, ◌∙◌, arith, take_all, rules}
use Rattle.lemmas.specs.BigEndian.{big_endian, digit}
use Rattle.sha256_stream.proofs.Padding.{joined, joined_step, joined_bytes}
use Rattle.sha256_stream.proofs.bytes_of.Goals as goal

pub loop-i-init : goal.loop-i-init
unfolding joined
loop-i-init c = (search rules, refl)

pub loop-i-preserved : goal.loop-i-preserved
unfolding big_endian digit
loop-i-preserved c =
    let l = c.loop-i in
    let e = c.copy_from_slice.ensures.after ∙ c.to_be_bytes.ensures in
    let n : length c.copy_from_slice.new.self ≡ 4 = ap length e in (
      simp (length-append, length-drop, length-take) (omega arith),
      joined_step l.out _ _ l.i _ (omega arith) (omega arith) e l.invariant.1,
    )

pub returns : goal.returns
returns c =
    let l = c.loop-i in
    let e : l.i ≡ 8 = omega arith in
    sym (take_all 32 l.out (omega arith)) ∙ (rw e at l.invariant.1) ∙ joined_bytes c.args.s
