-- Nothing is served yet.
use Rattle.std.proofs.Common.{sym, subst, Ok}
use Rattle.gate.specs.declared.Served.{Served}
use Rattle.gate.specs.Promises.{loop_state, Progress}
use Rattle.gate.specs.Rounds.{progress_none}
use Rattle.gate.proofs.serve.Goals as goal

pub loop-init : goal.loop-init
loop-init c =
    let a = c.args in
    let b = a.buffers.now in
    subst
    (λ (t : Served). Progress (loop_state a.drive.now t (Ok tt)) b.medium b.input a.inlog.now a.outlog.now)
    (sym c.requires.1) (progress_none a.drive.now b.medium b.input a.inlog.now a.outlog.now c.requires.0)
