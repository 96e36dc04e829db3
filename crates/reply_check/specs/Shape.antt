-- Document 01, row 30, as the code judges it: a reply's head and length first, then at level 2 its digest.
-- a, b: credential and request. k: the credential key. s: the reply. r: the request's numbers.
use Rattle.std.specs.Prelude.{◌&&◌, ◌||◌, Bool, not, List, ℕ, ◌+◌, length, take}
use Rattle.lemmas.specs.Lists.{part, same}
use Rattle.lemmas.specs.Tests.{◌is◌, ◌isnt◌}
use Rattle.digest.specs.Hmac.{hmac}
use Rattle.rules.specs.declared.Request.{Request}
use Rattle.rules.specs.Frame.{digest_size}
use Rattle.rules.specs.Operations.{head, head_size, reply_covered, reply_length, result_length}

-- the reply is not the head, or not of the length, that the request calls for
abbrev pub other_head : List ℕ → Request → Bool
other_head s r = not (same (take head_size s) (head r (result_length r)))

unfoldable pub wrong_shape : List ℕ → Request → Bool
wrong_shape s r = other_head s r || length s isnt reply_length r

-- the digest behind its first n bytes is another
abbrev pub wrong_digest : List ℕ → List ℕ → List ℕ → List ℕ → ℕ → Bool
wrong_digest a b k s n = not (same (part s n digest_size) (hmac k (reply_covered a b (take n s))))

unfoldable pub wrong_reply : List ℕ → List ℕ → List ℕ → List ℕ → Request → Bool
wrong_reply a b k s r = wrong_shape s r || (r.level is 2 && wrong_digest a b k s (head_size + result_length r))
