-- What `encode` leaves, of the request that has those fields.
use Rattle.rules.specs.Frame.{request_length}
use Rattle.records.proofs.encode_request.Goals as goal

pub returns : goal.returns
unfolding request_length
returns c = rw c.request_from.ensures at c.encode.ensures
