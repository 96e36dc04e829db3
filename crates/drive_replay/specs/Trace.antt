-- The sizes of the program's buffers.
use Rattle.std.specs.Prelude.{ℕ}

abbrev pub buffer_size : ℕ
buffer_size = 70_000

abbrev pub key_limit : ℕ
key_limit = 40

-- the bytes behind the medium, and the medium with them
abbrev pub behind : ℕ
behind = 8

abbrev pub medium_size : ℕ
medium_size = 70_008
