-- By first_step.
use Rattle.std.proofs.Common.{◌≡◌, ◌+◌, ◌*◌, ap, ◌∙◌, arith}
use Rattle.sha256_block.proofs.Compression.{left_of16, first_step}
use Rattle.sha256_block.proofs.first_rounds.Goals as goal

pub loop-i-init : goal.loop-i-init
loop-i-init c =
    let none : 4 * c.loop-turn.turn + 0 ≡ 4 * c.loop-turn.turn = omega arith in
    ap (λ n. left_of16 c.args.k.now n c.args.w.now c.loop-turn.v) none

pub loop-i-preserved : goal.loop-i-preserved
loop-i-preserved c =
    let a = c.args in
    let l = c.loop-i in
    let t = 4 * c.loop-turn.turn + l.i in
    let next : 4 * c.loop-turn.turn + (l.i + 1) ≡ t + 1 = omega arith in
    ap (λ n. left_of16 a.k.now n a.w.now c.round-v.result) next
    ∙ ap (left_of16 a.k.now (t + 1) a.w.now) c.round-v.ensures
    ∙ first_step a.k.now a.w.now t l.v (omega arith) (omega arith) (omega arith)
    ∙ l.invariant

pub loop-turn-preserved : goal.loop-turn-preserved
loop-turn-preserved c =
    let a = c.args in
    let all : 4 * (c.loop-turn.turn + 1) ≡ 4 * c.loop-turn.turn + c.loop-i.i = omega arith in
    ap (λ n. left_of16 a.k.now n a.w.now c.loop-i.v) all ∙ c.loop-i.invariant ∙ c.loop-turn.invariant

pub returns : goal.returns
returns c =
    let e : c.loop-turn.turn ≡ 4 = omega arith in
    rw e at c.loop-turn.invariant
