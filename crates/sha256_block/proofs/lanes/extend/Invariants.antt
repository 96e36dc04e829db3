-- Each turn makes the next word, and every word before it stays.
use Rattle.std.proofs.Common.{ℕ, List}
use Rattle.sha256_block.specs.Lanes.{Lanes}
use Rattle.sha256_block.proofs.lanes.extend.Given as goal

abbrev pub invariant-loop-p : goal.invariant-loop-p
invariant-loop-p l = (m : List ℕ) → Lanes 128 l.initial.w m → Lanes l.p l.w m
