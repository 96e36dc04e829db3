-- Change 2 of document 02 over the code's own contract: of any calls of format and gate that keep their promises, row 12 is the
-- answer only to a repeat. "Two heads now run as one holder, each counting from zero, so frames for two objects pass for
-- repeats": they do not any more. Proved in proofs/: `only_repeats`.
-- c: a call made, behind the calls `before`.
use Rattle.std.specs.Prelude.{◌≡◌, ◌++◌, ◌∷◌, List, ℕ}
use Rattle.rules.specs.TwoHeads.{Share}
use Rattle.drive.specs.Answers.{Formatted}
use Rattle.drive.specs.Chain.{CallMade, Granted, MadeFromFormat}

-- one of the calls before was granted, and shares "nonce memory, slot, holder, time, count and object together" with c
pub record Repeats (before : List CallMade) (c : CallMade) : Type 0 where
  pub front : List CallMade
  pub first : CallMade
  pub between : List CallMade
  pub split : before ≡ front ++ (first ∷ between)
  pub granted : Granted first
  pub shared : Share first.call c.call

abbrev pub OnlyRepeats : List CallMade → Type 0
OnlyRepeats calls =
    (before later : List CallMade) (c : CallMade) → calls ≡ before ++ (c ∷ later) → c.answer.row ≡ 12 → Repeats before c

-- for every format that returned row 0 and every list of calls
abbrev pub AllOfOnlyRepeats : Type 0
AllOfOnlyRepeats =
    (medium : List ℕ) (F : ℕ) (master key : List ℕ) (r : Formatted) (zeroed : List ℕ) (calls : List CallMade)
    → MadeFromFormat medium F master key r zeroed calls → OnlyRepeats calls
