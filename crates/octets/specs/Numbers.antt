-- Document 01, "Multi-byte fields are unsigned and big-endian": numbers and bytes in a lent slice, whatever its length.
-- s: the slice's bytes.
use Rattle.std.specs.Prelude.{not, ◌||◌, cond, List, ℕ, ◌+◌, leb, length}
use Rattle.lemmas.specs.Tests.{◌over◌}
use Rattle.lemmas.specs.Lists.{splice}
use Rattle.lemmas.specs.BigEndian.{number_at, big_endian}

-- the number that n bytes from place i on spell; 0 where they are more than eight, or not all there
abbrev pub number_in : List ℕ → ℕ → ℕ → ℕ
number_in s i n = cond (n over 8 || not (leb (i + n) (length s))) 0 (number_at s i n)

-- s with bytes from place i on, where they fit; else s
abbrev pub bytes_put : List ℕ → ℕ → List ℕ → List ℕ
bytes_put s i bytes = cond (leb (i + length bytes) (length s)) (splice s i bytes) s

-- s with x in n bytes from place i on, where they fit; else s
abbrev pub number_put : List ℕ → ℕ → ℕ → ℕ → List ℕ
number_put s i n x = cond (leb (i + n) (length s)) (splice s i (big_endian n x)) s
