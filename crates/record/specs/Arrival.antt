-- Document 01, the program `gate`: what is known of an input record while its bytes arrive.
-- input: the bytes from its start on, as far as they have arrived. most: the longest frame, in bytes.
use Rattle.std.specs.Prelude.{Bool, true, false, not, ◌&&◌, ◌||◌, cond, List, ℕ, leb, length}
use Rattle.rules.specs.Program.{broken, clock_in, clock_start, frame_length, other_mark, overlong, record_head}
use Rattle.record.specs.declared.Arrived.{Arrived}
use Rattle.record.specs.declared.Arrived.TheVariants.{Whole, Malformed, Short}

-- "another mark", once its bytes are there, or "a length over 65,536", once the head is
abbrev pub malformed : ℕ → List ℕ → Bool
malformed most input =
    (leb clock_start (length input) && other_mark input) || (leb record_head (length input) && overlong most input)

-- what there is to know: that it is whole, that it never will be, its clock and its frame's length
pub record RecordFacts : Type 0 where
  pub whole : Bool
  pub malformed : Bool
  pub clock : ℕ
  pub size : ℕ

-- each answer's values
abbrev pub facts_of : Arrived → RecordFacts
facts_of (Whole clock size) = record { whole = true; malformed = false; clock = clock; size = size }
facts_of Malformed = record { whole = false; malformed = true; clock = 0; size = 0 }
facts_of Short = record { whole = false; malformed = false; clock = 0; size = 0 }

-- and document 01's, of the bytes that have arrived
unfoldable pub record_facts : ℕ → List ℕ → RecordFacts
record_facts most input = record {
  whole = not (broken most input);
  malformed = malformed most input;
  clock = cond (broken most input) 0 (clock_in input);
  size = cond (broken most input) 0 (frame_length input);
}
