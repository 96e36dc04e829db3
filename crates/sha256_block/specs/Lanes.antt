-- The schedules of eight blocks side by side, for the contracts of src/lanes.rt: word t of block l is word 8 * t + l.
use Rattle.std.specs.Prelude.{◌≡◌, ℕ, ◌*◌, ◌/◌, ◌%◌, ◌<◌, List, drop, slice_index}
use Rattle.sha256_block.specs.Sha256.{schedule}

-- word q of the eight blocks that m starts with
abbrev pub lane_word : List ℕ → ℕ → ℕ
lane_word m q = slice_index (schedule (drop (64 * (q % 8)) m)) (q / 8)

-- the first n of the words w are theirs
abbrev pub Lanes : ℕ → List ℕ → List ℕ → Type 0
Lanes n w m = (q : ℕ) → q < n → slice_index w q ≡ lane_word m q
