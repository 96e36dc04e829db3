-- What the program writes of a digest: its bytes in hexadecimal digits, as text; and a message that it makes.
use Rattle.std.specs.Prelude.{cond, List, [], ◌∷◌, ◌++◌, ℕ, zero, suc, ◌+◌, ◌/◌, ◌%◌, ltb}

-- 0 to 9 are the characters 48 to 57, 10 to 15 are 97 to 102
abbrev pub hex_digit : ℕ → ℕ
hex_digit x = cond (ltb x 10) (x + 48) (x + 87)

unfoldable pub hex : List ℕ → List ℕ
hex [] = []
hex (b ∷ bs) = hex_digit (b / 16 % 16) ∷ hex_digit (b % 16) ∷ hex bs

-- 0, 1, .. n - 1
unfoldable pub count : ℕ → List ℕ
count zero = []
count (suc n) = count n ++ n ∷ []
