-- Nothing is counted yet.
use Rattle.std.proofs.Common.{sym, subst}
use Rattle.report.specs.declared.Counted.{Counted}
use Rattle.report.specs.Promises.{loop_state, Progress}
use Rattle.report.specs.Rounds.{progress_none}
use Rattle.report.proofs.serve.Goals as goal

pub loop-stdin-init : goal.loop-stdin-init
loop-stdin-init c =
    let a = c.args in
    let b = a.buffers.now in
    subst (λ (t : Counted). Progress (loop_state a.drive.now t) b.medium b.input b.counters a.inlog.now)
    (sym c.requires.2) (progress_none a.drive.now b.medium b.input b.counters a.inlog.now c.requires.0 c.requires.1)
