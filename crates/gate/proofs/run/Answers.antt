-- The rounds, and then the last line where the output can be written.
use Rattle.std.proofs.Common.{◌≡◌, ap, sym, subst, ◌∙◌, Bool, false, cond, List, ℕ, rules}
use Rattle.std.specs.Result.{is_ok}
use Rattle.rules.specs.Program.{cut, ended}
use Rattle.logged.specs.Log.{Added}
use Rattle.gate.specs.Promises.{loop_state, RunMet}
use Rattle.gate.specs.Rounds.{run-finished, run-unwritten}
use Rattle.gate.proofs.run.Goals as goal

pub returns-in_err-serve : goal.returns-in_err-serve
returns-in_err-serve c =
    let n = c.serve.new in
    let t = n.served in
    let failed : is_ok c.serve.result ≡ false = ap is_ok c.in_err-serve.was in
    let handed : is_ok c.from_residual.result ≡ false = search rules in
    subst
    (λ (b : Bool). RunMet (record { drive = n.drive; intake = t.intake; calls = t.calls; logged = t.logged; written = b })
    n.buffers.medium n.inlog n.outlog)
    (failed ∙ sym handed)
    (run-unwritten (loop_state n.drive t c.serve.result) n.buffers.medium n.buffers.input n.inlog n.outlog n.outlog 0
    c.serve.ensures.reached failed)

pub returns : goal.returns
returns c =
    let n = c.serve.new in
    let t = n.served in
    let log : List ℕ = c.finish.new.outlog in
    run-finished (loop_state n.drive t c.serve.result) n.buffers.medium n.buffers.input n.inlog n.outlog log c.finish.new.at
    c.serve.ensures.reached (c.serve.ensures.stopped (ap is_ok c.in_ok-serve.was))
    (subst (λ (b : Bool). Added n.outlog t.logged (cond b (ended t.calls) (cut t.calls)) log c.finish.new.at)
    c.has_ended-ended.ensures c.finish.ensures)
    c.finish.auto.outlog
