-- By lane_step.
use Rattle.std.proofs.Common.{◌≡◌, ◌+◌, ◌*◌, [], drop, ap, ◌∙◌, arith, drop_of_length-le}
use Rattle.sha256_block.specs.Sha256.{rounds}
use Rattle.sha256_block.proofs.Schedules.{left_of, lane_step}
use Rattle.sha256_block.proofs.lanes.lane_rounds.Goals as goal

pub loop-i-init : goal.loop-i-init
loop-i-init c =
    let o = c.loop-turn in
    let none : 8 * o.turn + 0 ≡ 8 * o.turn = omega arith in
    λ m known. ap (λ n. left_of c.args.k.now c.args.l m n o.v) none

pub loop-i-preserved : goal.loop-i-preserved
loop-i-preserved c =
    let a = c.args in
    let l = c.loop-i in
    let t = 8 * c.loop-turn.turn + l.i in
    let next : 8 * c.loop-turn.turn + (l.i + 1) ≡ t + 1 = omega arith in
    λ m known. ap (λ n. left_of a.k.now a.l m n c.round-v.result) next
    ∙ ap (left_of a.k.now a.l m (t + 1)) c.round-v.ensures
    ∙ lane_step a.k.now a.w.now m a.l t l.v (omega arith) known c.requires (omega arith)
    ∙ l.invariant m known

pub loop-turn-preserved : goal.loop-turn-preserved
loop-turn-preserved c =
    let a = c.args in
    let l = c.loop-i in
    let all : 8 * (c.loop-turn.turn + 1) ≡ 8 * c.loop-turn.turn + l.i = omega arith in
    λ m known. ap (λ n. left_of a.k.now a.l m n l.v) all ∙ l.invariant m known ∙ c.loop-turn.invariant m known

pub returns : goal.returns
unfolding rounds
returns c =
    let k = c.args.k.now in
    let e : c.loop-turn.turn ≡ 8 = omega arith in
    let d : drop 64 k ≡ [] = drop_of_length-le k {i = 64} (omega arith) in
    λ m known. rw (e, d) at (c.loop-turn.invariant m known)
