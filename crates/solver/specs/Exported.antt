-- Document 01, "Client end": the builder's and the reply check's answers as the solver sees them, in numbers.
use Rattle.std.specs.Prelude.{List, ℕ}
use Rattle.rules.specs.Client as rules
use Rattle.solver.specs.declared.FrameBuilt.{FrameBuilt}
use Rattle.solver.specs.declared.ReplyChecked.{ReplyChecked}

-- row and length
unfoldable pub built_of : List ℕ → List ℕ → List ℕ → List ℕ → List ℕ → FrameBuilt
built_of credential request payload key space = record {
  row = (rules.build credential request payload key space).row;
  length = (rules.build credential request payload key space).length;
}

-- and what the space then holds
unfoldable pub space_after : List ℕ → List ℕ → List ℕ → List ℕ → List ℕ → List ℕ
space_after credential request payload key space = (rules.build credential request payload key space).space

-- "there the check gives row, start and length, the last two 0 when refused"
unfoldable pub checked_of : List ℕ → List ℕ → List ℕ → List ℕ → ReplyChecked
checked_of credential request key reply = record {
  row = (rules.check credential request key reply).row;
  start = (rules.check credential request key reply).start;
  length = (rules.check credential request key reply).length;
}
