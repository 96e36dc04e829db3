-- Each turn works the next of the eight blocks in.
use Rattle.std.proofs.Common.{◌≡◌, ℕ, ◌≤◌, List, length}
use Rattle.sha256_block.specs.Sha256.{blocks}
use Rattle.sha256_block.specs.Lanes.{Lanes}
use Rattle.sha256_block.proofs.lanes.compress_lanes.Given as goal

abbrev pub invariant-loop-l : goal.invariant-loop-l
invariant-loop-l l = (m : List ℕ) → Lanes 512 l.w m → 512 ≤ length m → l.v ≡ blocks l.l l.initial.v m
