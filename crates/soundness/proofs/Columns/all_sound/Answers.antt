-- sound: whether all places under i are sound (each_more).
use Rattle.std.proofs.Common.{◌≡◌, refl, arith}
use Rattle.soundness.specs.Spans.{sound_at, each, each_more}
use Rattle.soundness.proofs.Columns.all_sound.Goals as goal

pub loop-i-init : goal.loop-i-init
unfolding each
loop-i-init c = refl

pub loop-i-preserved : goal.loop-i-preserved
loop-i-preserved c =
    let l = c.loop-i in
    let a = c.args in
    let t = sound_at a.quarter a.last a.self.numbers.now a.self.starts.now a.self.ends.now a.self.versions.now in
    rw (each_more t l.i, l.invariant, c.is_sound-sound.ensures)

pub returns : goal.returns
returns c =
    let l = c.loop-i in
    let e : l.i ≡ c.args.self.count = omega arith in
    rw e at l.invariant
