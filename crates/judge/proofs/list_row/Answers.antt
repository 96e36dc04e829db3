-- Case by case of what the request reaches.
use Rattle.wire.specs.Parse.{numbers_of}
use Rattle.judge.proofs.list_row.Goals as goal

pub returns-in-None : goal.returns-in-None
unfolding numbers_of
returns-in-None c = rw c.in-None.is

pub returns-in-Some : goal.returns-in-Some
unfolding numbers_of
returns-in-Some c = rw c.in-Some.is c.group_row.ensures
