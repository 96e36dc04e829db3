-- Document 01, the program `gate`: its input records, the calls that they are, and what it prints.
-- input: bytes of its standard input. most: the longest frame that a program takes, in bytes. space: its reply space's size.
use Rattle.std.specs.Prelude.{Bool, true, false, ◌||◌, cond, List, [], ◌∷◌, ◌++◌, ℕ, zero, suc, ◌+◌, ◌/◌, ◌%◌, length, drop, replicate}
use Rattle.lemmas.specs.Tests.{◌over◌, ◌under◌, ◌is◌, ◌isnt◌}
use Rattle.lemmas.specs.Lists.{part}
use Rattle.lemmas.specs.BigEndian.{number_at}
use Rattle.rules.specs.Drive.{format}
use Rattle.rules.specs.Gate.{Call}
use Rattle.rules.specs.Demands.{State, answer, step}

-- ---- "formats 65,536 bytes with F = 1, master key 32 zero bytes, drive key 32 bytes of 01"
abbrev pub formatted : State
formatted =
    let f = format (replicate 65_536 0) 1 (replicate 32 0) (replicate 32 1) in
    record { drive = f.drive; medium = f.medium }

-- ---- an input record: "mark 4C 49, clock (8 bytes), frame length (4), frame"
abbrev pub record_magic : ℕ
record_magic = 0x4c49

-- where the clock, the frame length and the frame start in it
abbrev pub clock_start : ℕ
clock_start = 2

abbrev pub length_start : ℕ
length_start = clock_start + 8

abbrev pub record_head : ℕ
record_head = length_start + 4

abbrev pub frame_length : List ℕ → ℕ
frame_length input = number_at input length_start 4

abbrev pub clock_in : List ℕ → ℕ
clock_in input = number_at input clock_start 8

abbrev pub frame_in : List ℕ → List ℕ
frame_in input = part input record_head (frame_length input)

-- the call that it is
abbrev pub call_in : ℕ → List ℕ → Call
call_in space input = record { frame = frame_in input; clock = clock_in input; space = replicate space 0 }

-- the bytes behind it
abbrev pub after_record : List ℕ → List ℕ
after_record input = drop (record_head + frame_length input) input

-- "a record with another mark or without all its bytes, or a length over 65,536"
abbrev pub other_mark : List ℕ → Bool
other_mark input = number_at input 0 2 isnt record_magic

abbrev pub overlong : ℕ → List ℕ → Bool
overlong most input = frame_length input over most

unfoldable pub broken : ℕ → List ℕ → Bool
broken most input =
    length input under record_head
    || other_mark input
    || overlong most input
    || length input under record_head + frame_length input

-- ---- the calls of an input: the records at its start that are not broken, in order, at most k of them
unfoldable pub calls_of : ℕ → ℕ → ℕ → List ℕ → List Call
calls_of most space zero input = []
calls_of most space (suc k) input =
    elim (broken most input) [
      | true ↦ []
      | false ↦ call_in space input ∷ calls_of most space k (after_record input)
    ]

-- and the bytes that are left behind them
unfoldable pub left_of : ℕ → ℕ → List ℕ → List ℕ
left_of most zero input = input
left_of most (suc k) input = elim (broken most input) [ true ↦ input | false ↦ left_of most k (after_record input) ]

-- all of them: there are no more than bytes
unfoldable pub calls_in : ℕ → ℕ → List ℕ → List Call
calls_in most space input = calls_of most space (length input) input

unfoldable pub left_in : ℕ → List ℕ → List ℕ
left_in most input = left_of most (length input) input

-- ---- a list of calls and their answers, as far as a program looks at them
pub record AnsweredCall : Type 0 where
  pub frame : List ℕ
  pub row : ℕ
  pub length : ℕ

unfoldable pub answered : State → List Call → List AnsweredCall
answered s [] = []
answered s (c ∷ cs) =
    record { frame = c.frame; row = (answer s c).row; length = (answer s c).length } ∷ answered (step s c) cs

-- ---- document 01's program: the longest frame, and the reply space of each call
abbrev pub most_frame : ℕ
most_frame = 65_536

abbrev pub reply_size : ℕ
reply_size = 65_536

-- ---- what is printed: numbers in decimal, of at most twenty digits
unfoldable pub digits : ℕ → ℕ → List ℕ
digits zero n = []
digits (suc k) n = elim (n under 10) [ true ↦ (48 + n) ∷ [] | false ↦ digits k (n / 10) ++ ((48 + n % 10) ∷ []) ]

abbrev pub decimal : ℕ → List ℕ
decimal n = digits 20 n

-- "call number from 1, row, reply length"
abbrev pub printed : ℕ → ℕ → ℕ → List ℕ
printed n row size = decimal n ++ (32 ∷ (decimal row ++ (32 ∷ (decimal size ++ (10 ∷ [])))))

-- `end` and the count of calls; `cut` and that count
abbrev pub ended : ℕ → List ℕ
ended n = 101 ∷ 110 ∷ 100 ∷ 32 ∷ (decimal n ++ (10 ∷ []))

abbrev pub cut : ℕ → List ℕ
cut n = 99 ∷ 117 ∷ 116 ∷ 32 ∷ (decimal n ++ (10 ∷ []))

-- the lines of the calls after the first n
unfoldable pub lines_from : ℕ → List AnsweredCall → List ℕ
lines_from n [] = []
lines_from n (a ∷ later) = printed (n + 1) a.row a.length ++ lines_from (n + 1) later

-- the last line, after n calls
abbrev pub last_line : ℕ → List ℕ → List ℕ
last_line n left = cond (length left is 0) (ended n) (cut n)

-- what is printed of an input that finds the drive and the medium s after n calls
unfoldable pub prints : State → ℕ → List ℕ → List ℕ
prints s n input =
    let cs = calls_in most_frame reply_size input in
    lines_from n (answered s cs) ++ last_line (n + length cs) (left_in most_frame input)

unfoldable pub program : List ℕ → List ℕ
program input = prints formatted 0 input
