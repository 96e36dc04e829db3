-- The bytes passed are pasted, and at the end all: paste_all.
use Rattle.std.proofs.Common.{◌≡◌, length, ap, ◌∙◌, arith, add-one}
use lib.Seq.{paste, paste-zero, paste-suc}
use Rattle.lemmas.specs.Layout.{paste_all}
use Rattle.octets.proofs.places.copy_at.Goals as goal

pub loop-i-init : goal.loop-i-init
loop-i-init c = paste-zero c.args.s.now c.args.at c.args.bytes.now

pub loop-i-preserved : goal.loop-i-preserved
loop-i-preserved c =
    let a = c.args in
    let l = c.loop-i in
    rw (l.invariant, add-one l.i) (paste-suc a.s.now a.at a.bytes.now l.i 0 (omega arith) (omega arith))

pub returns : goal.returns
returns c =
    let a = c.args in
    let l = c.loop-i in
    let e : l.i ≡ length a.bytes.now = omega arith in
    l.invariant ∙ ap (paste a.s.now a.at a.bytes.now) e ∙ paste_all a.s.now a.at a.bytes.now
