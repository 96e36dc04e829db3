-- The first i operations have document 01's need, and all else is as it was (filling_next).
use Rattle.rules.specs.Needs.{default_need}
use Rattle.state.specs.Loads.{Filling}
use Rattle.state.proofs.put_defaults.Given as goal

abbrev pub invariant-loop-i : goal.invariant-loop-i
invariant-loop-i l = Filling default_need l.initial.table l.table l.i
