-- The first i operations are loaded, and all else is as it was (filling_next).
use Rattle.rules.specs.Needs.{need_at}
use Rattle.state.specs.Loads.{Filling}
use Rattle.state.proofs.load.Given as goal

abbrev pub invariant-loop-i : goal.invariant-loop-i
invariant-loop-i l = Filling (need_at l.bytes) l.initial.table l.table l.i
