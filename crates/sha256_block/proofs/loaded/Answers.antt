-- By words_suc.
use Rattle.std.proofs.Common.{◌≡◌, ◌*◌, ◌<◌, length, drop, refl, add-one, arith, length-set, drop-drop, take-suc-set, rules}
use Rattle.sha256_block.specs.Sha256.{words}
use Rattle.sha256_block.proofs.Compression.{words_suc}
use Rattle.sha256_block.proofs.loaded.Goals as goal

pub loop-i-init : goal.loop-i-init
unfolding words
loop-i-init c = (search rules, refl)

pub loop-i-preserved : goal.loop-i-preserved
loop-i-preserved c =
    let l = c.loop-i in
    let b = c.args.at in
    let s = c.args.s.now in
    let h : l.i < length l.w = omega arith in (
      rw length-set l.invariant.0,
      rw (
        add-one l.i,
        take-suc-set l.w l.i c.word_at.result h,
        l.invariant.1,
        words_suc l.i (drop b s),
        drop-drop (4 * l.i) b s,
        c.word_at.ensures,
      ),
    )

pub returns : goal.returns
returns c =
    let e : c.loop-i.i ≡ 16 = omega arith in
    rw e at c.loop-i.invariant.1
