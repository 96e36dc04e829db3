-- `wire::reader::Reader::credential` meets its contract: the credential is all there, so it is the one read.
use mathlib.Core.Path.{◌∙◌}
use Prim.Native.Nat.{◌+◌}
use native.Mathlib.Omega.{arith}
use lib.ListN.{length}
use borrow.Author.Tests.{le-leb}
use Rattle.rules.specs.Frame.{credential_at, credential_length}
use Rattle.fields.specs.Records.{credential_most}
use Rattle.wire.proofs.reader.Reader.credential.Goals as goal

pub returns : goal.returns
returns c =
    let a = c.args.self in
    let found = credential_at a.src.now a.at in
    c.credential_in.ensures
    ∙ rw (le-leb (a.at + credential_length found) (length a.src.now) (omega (arith, credential_most found)))
