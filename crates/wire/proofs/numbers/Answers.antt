-- `wire::numbers` meets its contract, by whether the request names a member.
use Rattle.std.proofs.Common.{◌≡◌, ℕ, Option, Some, None, refl}
use Rattle.std.specs.Option.{unwrap_or}
use Rattle.wire.specs.Parse.{numbers_of, reach_member}
use Rattle.wire.proofs.numbers.Goals as goal

-- the member's number, 0 for none
member_or : (m : Option ℕ) → unwrap_or m 0 ≡ reach_member m
member_or None = refl
member_or (Some number) = refl

pub returns : goal.returns
unfolding numbers_of
returns c = rw (c.unwrap_or.ensures, member_or c.args.request.member, c.reach_magic.ensures, c.operation_numbers-v.ensures)
