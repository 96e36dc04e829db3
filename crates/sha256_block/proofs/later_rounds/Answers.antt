-- By later_step.
use Rattle.std.proofs.Common.{◌≡◌, ◌+◌, ◌*◌, [], get_or, drop, set, ap, ◌∙◌, arith, drop_of_length-le}
use Rattle.sha256_block.specs.Sha256.{rounds, round}
use Rattle.sha256_block.proofs.Compression.{left, later_step}
use Rattle.sha256_block.proofs.later_rounds.Goals as goal

pub loop-i-init : goal.loop-i-init
loop-i-init c =
    let o = c.loop-turn in
    let none : 4 * o.turn + 0 ≡ 4 * o.turn = omega arith in
    ap (λ n. left c.args.k.now n o.w o.v) none

pub loop-i-preserved : goal.loop-i-preserved
loop-i-preserved c =
    let k = c.args.k.now in
    let l = c.loop-i in
    let t = 4 * c.loop-turn.turn + l.i in
    let next : 4 * c.loop-turn.turn + (l.i + 1) ≡ t + 1 = omega arith in
    ap (λ n. left k n (set l.w t c.next_at-x.result) c.round-v.result) next
    ∙ ap (left k (t + 1) (set l.w t c.next_at-x.result)) c.round-v.ensures
    ∙ ap (λ x. left k (t + 1) (set l.w t x) (round (get_or k t 0) x l.v)) c.next_at-x.ensures
    ∙ later_step k l.w t l.v (omega arith) (omega arith) (omega arith) (omega arith)
    ∙ l.invariant

pub loop-turn-preserved : goal.loop-turn-preserved
loop-turn-preserved c =
    let l = c.loop-i in
    let all : 4 * (c.loop-turn.turn + 1) ≡ 4 * c.loop-turn.turn + l.i = omega arith in
    ap (λ n. left c.args.k.now n l.w l.v) all ∙ l.invariant ∙ c.loop-turn.invariant

pub returns : goal.returns
unfolding rounds
returns c =
    let k = c.args.k.now in
    let e : c.loop-turn.turn ≡ 16 = omega arith in
    let d : drop 64 k ≡ [] = drop_of_length-le k {i = 64} (omega arith) in
    rw (e, d) at c.loop-turn.invariant
