-- The loop's invariant: the digits still to come and then the text so far are the number and then the text before.
use Rattle.std.proofs.Common.{◌≡◌, ◌++◌, ℕ, suc, ◌+◌, ◌-◌, ◌^◌, ◌≤◌, ◌<◌, length, drop}
use Rattle.rules.specs.Program.{digits}
use Rattle.lines.proofs.buffer.Text.decimal_before.Given as goal

-- of twenty digits, as many are left as from place first - 19 up to i
abbrev pub left : ℕ → ℕ → ℕ
left first i = 19 + i - first

abbrev pub invariant-loop-rest : goal.invariant-loop-rest
invariant-loop-rest l = (l.i ≤ l.initial.i) × (l.initial.i ≤ l.i + 19) × (length l.bytes ≡ 64)
    × (l.rest < 10 ^ suc (left l.initial.i l.i))
    × (digits (suc (left l.initial.i l.i)) l.rest ++ drop (suc l.i) l.bytes ≡ digits 20 l.n ++ drop (suc l.initial.i) l.initial.bytes)

abbrev pub decreases-loop-rest : goal.decreases-loop-rest
decreases-loop-rest l = l.rest
