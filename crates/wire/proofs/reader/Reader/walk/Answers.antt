-- `wire::reader::Reader::walk` meets its contract: the reader that is further on by the credential's length reads in the same frame, which
-- has room behind that place for the longest request.
use native.Mathlib.Omega.{arith}
use Rattle.fields.specs.Records.{credential_most}
use Rattle.wire.proofs.reader.Reader.walk.Goals as goal

pub request-requires : goal.request-requires
request-requires c =
    rw c.skip.ensures.0
    (omega (arith, c.skip.ensures.1, c.requires.0, c.credential_length.ensures, credential_most c.credential-c.result))
