-- Laws of the bytes behind those taken.
use Rattle.std.specs.Prelude.{◌≡◌, refl, List, ℕ, ◌+◌, ◌-◌, length, take, drop}
use Rattle.std.proofs.Common.{ap, ◌∙◌, arith, length-drop, take_all, drop-drop}
use Rattle.lemmas.specs.Lists.{part}
use Rattle.rules.specs.Program.{frame_in, frame_length, record_head}

abbrev pub rest : List ℕ → ℕ → List ℕ
rest input taken = take (length input - taken) (drop taken input)

pub rest_all : (input : List ℕ) (taken : ℕ) → rest input taken ≡ drop taken input
rest_all input taken = take_all (length input - taken) (drop taken input) (omega (arith, length-drop taken input))

pub length_rest : (input : List ℕ) (taken : ℕ) → length (rest input taken) ≡ length input - taken
length_rest input taken = ap length (rest_all input taken) ∙ length-drop taken input

-- the frame that is lent is the record's
pub frame-lent : (input : List ℕ) (taken size : ℕ) → size ≡ record_head + frame_length (drop taken input)
    → take ((taken + size) - (taken + record_head)) (drop (taken + record_head) input) ≡ frame_in (drop taken input)
unfolding part
frame-lent input taken size e =
    let n : (taken + size) - (taken + record_head) ≡ frame_length (drop taken input) = omega (arith, e) in
    rw (n, ← drop-drop record_head taken input) refl
