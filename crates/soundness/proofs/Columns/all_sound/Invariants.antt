-- sound: whether all places under i are sound (each_more).
use Rattle.std.proofs.Common.{◌≡◌}
use Rattle.soundness.specs.Spans.{sound_at, each}
use Rattle.soundness.proofs.Columns.all_sound.Given as goal

abbrev pub invariant-loop-i : goal.invariant-loop-i
invariant-loop-i l =
    l.sound ≡ each (sound_at l.quarter l.last l.self.numbers.now l.self.starts.now l.self.ends.now l.self.versions.now) l.i
