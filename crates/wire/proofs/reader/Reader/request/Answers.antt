-- `wire::reader::Reader::request` meets its contract: the request is there to read, and has a member only with a group's mark.
use mathlib.Core.Path.{◌∙◌, ◌≡◌, subst, sym}
use mathlib.Core.List.{List}
use Prim.Native.Nat.{ℕ, ◌≤◌, ◌+◌}
use native.Mathlib.Omega.{arith}
use lib.ListN.{length}
use borrow.Author.Tests.{le-leb}
use Rattle.rules.specs.Frame.{group_request_size, request_most, request_at, request_length}
use Rattle.fields.specs.Records.{request_in, plain_member}
use Rattle.wire.specs.Parse.{Formed}
use Rattle.wire.proofs.reader.Reader.request.Goals as goal

-- a request that is all there is the one read
read : (s : List ℕ) (i : ℕ) → i + group_request_size ≤ length s → request_in s i ≡ request_at s i
read s i h =
    let r = request_at s i in
    rw (le-leb (i + request_length r) (length s) (omega (arith, request_most r)))

pub fields_or_row-requires : goal.fields_or_row-requires
fields_or_row-requires c =
    let a = c.args.self in subst Formed (sym (c.request_in-r.ensures ∙ read a.src.now a.at c.requires)) (plain_member a.src.now a.at)

pub returns : goal.returns
returns c = let a = c.args.self in rw (c.request_in-r.ensures ∙ read a.src.now a.at c.requires) at c.fields_or_row.ensures
