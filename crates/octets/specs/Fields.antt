-- Document 01, "Multi-byte fields are unsigned and big-endian": fields one after the other in a lent slice, of any
-- length. ws: their widths. s: the slice's bytes. v: the fields' numbers.
use Rattle.std.specs.Prelude.{Bool, ◌&&◌, cond, false, true, List, ℕ, ◌+◌, ◌<◌, ◌^◌, leb, get_or, length, replicate}
use Rattle.lemmas.specs.Tests.{◌is◌}
use Rattle.lemmas.specs.Lists.{every, splice}
use Rattle.lemmas.specs.Fill.{replicate_at}
use Rattle.lemmas.specs.BigEndian.{layout_size, read_all, encode, fits_at, power_positive, read_fits}

-- count fields, none of more than eight bytes, lie within len from place i on
abbrev pub narrow : ℕ → Bool
narrow w = leb w 8

abbrev pub fields_fit : ℕ → ℕ → List ℕ → ℕ → Bool
fields_fit len i ws count = count is length ws && every narrow ws && leb (i + layout_size ws) len

-- their numbers, where they fit; else v
abbrev pub fields_read : List ℕ → ℕ → List ℕ → List ℕ → List ℕ
fields_read s i ws v = cond (fields_fit (length s) i ws (length v)) (read_all s i ws) v

-- s with v in them, where they fit; else s
abbrev pub fields_written : List ℕ → ℕ → List ℕ → List ℕ → List ℕ
fields_written s i ws v = cond (fields_fit (length s) i ws (length v)) (splice s i (encode ws v)) s

-- ---- a number read into zeros is below 256 to its field's width
pub fields-small : (s : List ℕ) (i : ℕ) (ws : List ℕ) (n : ℕ) → ((k : ℕ) → get_or s k 0 < 256)
    → (k : ℕ) → get_or (fields_read s i ws (replicate n 0)) k 0 < 256 ^ get_or ws k 0
fields-small s i ws n bytes k = go (fields_fit (length s) i ws (length (replicate n 0)))
  where
    go : (b : Bool) → get_or (cond b (read_all s i ws) (replicate n 0)) k 0 < 256 ^ get_or ws k 0
    go true = fits_at ws (read_all s i ws) (read_fits s i ws bytes) k
    go false = rw (replicate_at {A = ℕ} n k 0) (power_positive (get_or ws k 0))
