-- Text put into a lent space, all of it or nothing.
use Rattle.std.specs.Prelude.{◌≡◌, cond, List, ℕ, ◌+◌, leb, length, drop}
use Rattle.octets.specs.Numbers.{bytes_put}
use Rattle.rules.specs.Program.{ended, cut}
use Rattle.rules.specs.Report.{total}
use Rattle.lines.specs.declared.Last.{Last}
use Rattle.lines.specs.declared.Last.TheVariants.{End, Cut, Calls}
use Rattle.lines.specs.declared.buffer.Text.{Text}

-- the room for a text, in bytes: the longest line has 63
abbrev pub text_size : ℕ
text_size = 64

-- the bytes of a text that is made from its end to its start
abbrev pub text_of : Text → List ℕ
text_of t = drop t.from t.bytes

-- the last line after n calls, of `gate` and of `report`
abbrev pub last_text : Last → ℕ → List ℕ
last_text End n = ended n
last_text Cut n = cut n
last_text Calls n = total n

-- the place after n bytes from place i on, where they lie within size; else i
abbrev pub place_after : ℕ → ℕ → ℕ → ℕ
place_after size i n = cond (leb (i + n) size) (i + n) i

-- bytes are put into s from place i on, where they fit: what the space is then, and the place r after them
abbrev pub TextPut : List ℕ → ℕ → List ℕ → ℕ → List ℕ → Type 0
TextPut s i bytes r s' = (s' ≡ bytes_put s i bytes) × (r ≡ place_after (length s) i (length bytes))
