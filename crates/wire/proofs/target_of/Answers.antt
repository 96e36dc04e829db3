-- `wire::target_of` meets its contract, by whether the request names a member.
use Rattle.std.proofs.Common.{◌≡◌, ℕ, Option, Some, None, refl, ◌∙◌}
use Rattle.std.specs.Option.{unwrap_or}
use Rattle.rules.specs.declared.Credential.{Credential}
use Rattle.rules.specs.Frame.{target_of}
use Rattle.wire.specs.declared.ParsedRequest.{ParsedRequest}
use Rattle.wire.specs.Parse.{numbers_of}
use Rattle.wire.proofs.target_of.Goals as goal

by_member : (c : Credential) (request : ParsedRequest) (m : Option ℕ) → request.member ≡ m
    → unwrap_or m c.object ≡ target_of c (numbers_of request)
unfolding numbers_of target_of
by_member c request None e = rw e refl
by_member c request (Some number) e = rw e refl

pub returns : goal.returns
returns c = c.unwrap_or.ensures ∙ by_member c.args.c c.args.request _ refl
