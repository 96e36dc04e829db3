-- Law of a text put behind others: where it fits, it stands behind the first bytes of the space.
use Rattle.std.specs.Prelude.{◌≡◌, List, ◌++◌, ℕ, ◌+◌, ◌≤◌, length, take}
use Rattle.std.proofs.Common.{ap, ◌∙◌, le-leb}
use Rattle.octets.specs.Behind.{put_behind}
use Rattle.lines.specs.Text.{TextPut}

pub text_put_lem : (s : List ℕ) (i : ℕ) (t : List ℕ) (r : ℕ) (s' : List ℕ) → i + length t ≤ length s → TextPut s i t r s'
    → take r s' ≡ take i s ++ t
text_put_lem s i t r s' h p =
    let e : r ≡ i + length t = p.1 ∙ (rw (le-leb (i + length t) (length s) h)) in
    ap (λ (k : ℕ). take k s') e ∙ ap (λ (x : List ℕ). take (i + length t) x) p.0 ∙ put_behind s i t h
