-- Document 02, change 5, "A mill's own operation table": what an operation needs, document 01's rule for it,
-- a partition's table, and when one is good. A need is "a mask of required rights and a least level".
-- k: an operation's number. b: data bytes.
use Rattle.std.specs.Prelude.{Bool, ◌&&◌, cond, List, [], ◌∷◌, map, ℕ, ◌+◌, ◌-◌, ◌*◌, ◌^◌, min, length, get_or, leb}
use Rattle.lemmas.specs.Tests.{◌is◌, ◌under◌}
use Rattle.lemmas.specs.Lists.{every}
use Rattle.lemmas.specs.BigEndian.{number_at}
use Rattle.rules.specs.declared.Need.{Need}

-- ---- document 01's rule: "Operation k needs rights bit k − 1",
-- and row 7 refuses a level that "is 0 with operation 7"; "operation 8 treated as 7"
abbrev pub default_need : ℕ → Need
default_need k = record { mask = 2 ^ (min k 7 - 1); least = cond (k under 7) 0 1 }

-- ---- "Each partition gets a table for operations 1 to 7"
abbrev pub needs_count : ℕ
needs_count = 7

abbrev pub table_operations : List ℕ
table_operations = 1 ∷ 2 ∷ 3 ∷ 4 ∷ 5 ∷ 6 ∷ 7 ∷ []

-- "It starts, in row 24's drive too, as document 01's rule."
unfoldable pub default_needs : List Need
default_needs = map default_need table_operations

-- what a table says of operation k
abbrev pub table_need : List Need → ℕ → Need
table_need needs k = get_or needs (k - 1) (default_need k)

-- ---- what operation k needs under a slot. "Frames under slots 3 and 4 .. keep document 01's rule",
-- and so does operation 8, which no table has
unfoldable pub need_under : List Need → ℕ → ℕ → Need
need_under needs slot k = cond (slot under 3 && k under 8) (table_need needs k) (default_need k)

-- ---- "21 data bytes, two of mask and one of level for each operation in order"
abbrev pub needs_size : ℕ
needs_size = 21

abbrev pub need_at : List ℕ → ℕ → Need
need_at b k = record { mask = number_at b (3 * (k - 1)) 2; least = number_at b (3 * (k - 1) + 2) 1 }

unfoldable pub needs_at : List ℕ → List Need
needs_at b = map (need_at b) table_operations

-- ---- "A good table has every mask nonzero within bits 0 to 6, levels at most 2, and at least 1 for operation 7."
abbrev pub good_need : Need → Bool
good_need n = leb 1 n.mask && leb n.mask 127 && leb n.least 2

unfoldable pub good_needs : List Need → Bool
good_needs needs = length needs is needs_count && every good_need needs && leb 1 (table_need needs 7).least
