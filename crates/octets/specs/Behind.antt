-- Bytes put behind others in a lent slice, where they fit.
use Rattle.std.specs.Prelude.{◌≡◌, List, ◌++◌, ℕ, ◌+◌, ◌≤◌, length, take, drop}
use Rattle.std.proofs.Common.{ap, ◌∙◌, append_assoc, arith, length-append, take_at, length-take-le, le-leb}
use Rattle.lemmas.specs.Lists.{splice}
use Rattle.octets.specs.Numbers.{bytes_put}

-- the first i bytes of s, and behind them the bytes t
pub put_behind : (s : List ℕ) (i : ℕ) (t : List ℕ) → i + length t ≤ length s
    → take (i + length t) (bytes_put s i t) ≡ take i s ++ t
unfolding splice
put_behind s i t h =
    let size : length (take i s ++ t) ≡ i + length t =
    length-append (take i s) t ∙ ap (λ (k : ℕ). k + length t) (length-take-le i s (omega (arith, h))) in
    rw (le-leb (i + length t) (length s) h, ← append_assoc (take i s) t (drop (i + length t) s))
    (take_at (take i s ++ t) (drop (i + length t) s) (i + length t) size)
