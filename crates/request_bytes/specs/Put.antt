-- Document 01, "Request, 28 bytes, and frame", and change 6 of document 02: a request written into a lent slice, whatever its
-- length. s: the slice's bytes.
use Rattle.std.specs.Prelude.{cond, List, ℕ, leb, length}
use Rattle.lemmas.specs.Lists.{splice}
use Rattle.rules.specs.declared.Request.{Request}
use Rattle.rules.specs.Frame.{request_bytes, request_length}

-- s with a request's bytes, 28 or 32, at its start, where they fit; else s
abbrev pub request_put : List ℕ → Request → List ℕ
request_put s r = cond (leb (request_length r) (length s)) (splice s 0 (request_bytes r)) s
