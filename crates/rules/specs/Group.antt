-- Document 02, change 6, "One credential for a stack of logs": what a group object holds.
-- b: an object's bytes.
use Rattle.std.specs.Prelude.{Bool, true, ◌&&◌, List, [], ◌∷◌, ℕ, ◌/◌, ◌%◌, length, replicate}
use Rattle.lemmas.specs.Tests.{◌over◌, ◌is◌}
use Rattle.lemmas.specs.Lists.{some?}
use Rattle.lemmas.specs.BigEndian.{read_all}

-- ---- "a group object holds four-byte object numbers"
abbrev pub member_size : ℕ
member_size = 4

unfoldable pub members_in : List ℕ → List ℕ
members_in b = read_all b 0 (replicate (length b / member_size) member_size)

-- "from 1, in strictly rising order": each is over the one before it, the first over 0
unfoldable pub rising : ℕ → List ℕ → Bool
rising last [] = true
rising last (n ∷ ns) = n over last && rising n ns

-- "and no other byte"
unfoldable pub is_group_list : List ℕ → Bool
is_group_list b = length b % member_size is 0 && rising 0 (members_in b)

-- the number n is in the list
unfoldable pub lists : List ℕ → ℕ → Bool
lists b n = some? (λ (k : ℕ). k is n) (members_in b)
