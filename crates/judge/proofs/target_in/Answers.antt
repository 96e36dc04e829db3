-- Case by case of what the request reaches.
use Rattle.rules.specs.Frame.{target_of}
use Rattle.wire.specs.Parse.{numbers_of}
use Rattle.judge.proofs.target_in.Goals as goal

pub returns-in-None : goal.returns-in-None
unfolding target_of numbers_of
returns-in-None c = λ k e. rw c.in-None.is e

pub returns-in-Some : goal.returns-in-Some
unfolding target_of numbers_of
returns-in-Some c = λ k e. rw c.in-Some.is c.look_up.ensures
