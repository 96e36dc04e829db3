-- Objects judged and compared by their numbers and by 32-bit ends of their extents. Of sound objects that is the rules'
-- `apart` (clear-pairs in proofs/Clear.antt).
use Rattle.std.specs.Prelude.{◌≡◌, ℕ, zero, suc, ◌+◌, ◌%◌, ◌^◌, Bool, true, not, ◌&&◌, ◌||◌, List, map, nat_le, slice_index, slice_index_or}
use Rattle.std.proofs.Common.{ap, add-one}
use Rattle.lemmas.specs.Tests.{◌is◌, ◌under◌}
use Rattle.rules.specs.declared.Object.{Object}
use Rattle.rules.specs.Drive.{most_objects}
use Rattle.state.specs.Table.{range}

-- an extent's end, by a sum that wraps
abbrev pub end_of : Object → ℕ
end_of o = (o.start + o.size) % 2 ^ 32

-- a size of 32 bits, as every object of a table has
abbrev pub narrow : Object → Bool
narrow o = o.size under 2 ^ 32

-- the same of place i of a list of sizes
abbrev pub narrow_at : List ℕ → ℕ → Bool
narrow_at sizes i = slice_index_or sizes i 0 under 2 ^ 32

-- the end of the extent at place i of two lists: starts, sizes
abbrev pub end_at : List ℕ → List ℕ → ℕ → ℕ
end_at starts sizes i = (slice_index starts i + slice_index sizes i) % 2 ^ 32

-- the ends of all
unfoldable pub ends_of : List ℕ → List ℕ → List ℕ
ends_of starts sizes = map (end_at starts sizes) (range 0 most_objects)

-- an object's soundness by the end of its extent; of a narrow one that is the rules' `sound_object` (sound-each in
-- proofs/Sound.antt)
abbrev pub sound_span : ℕ → ℕ → ℕ → ℕ → ℕ → ℕ → Bool
sound_span q last number start end version = nat_le 1 number && start under end && nat_le end q && nat_le version last

-- the same of place i of four lists: numbers, starts, ends, versions
abbrev pub sound_at : ℕ → ℕ → List ℕ → List ℕ → List ℕ → List ℕ → ℕ → Bool
sound_at q last numbers starts ends versions i =
    sound_span q last (slice_index numbers i) (slice_index starts i) (slice_index ends i) (slice_index versions i)

-- two objects that share a number or, by those ends, a byte
abbrev pub clash : Object → Object → Bool
clash a b = a.number is b.number || (b.start under end_of a && a.start under end_of b)

-- the same of places i and n of three lists: numbers, starts, ends
abbrev pub clash_at : List ℕ → List ℕ → List ℕ → ℕ → ℕ → Bool
clash_at numbers starts ends n i =
    slice_index_or numbers i 0 is slice_index_or numbers n 0 || (slice_index_or starts n 0 under slice_index_or ends i 0 && slice_index_or starts i 0 under slice_index_or ends n 0)

-- whether every number under k passes a test
unfoldable pub each : (ℕ → Bool) → ℕ → Bool
each t zero = true
each t (suc k) = each t k && t k

pub each_more : (t : ℕ → Bool) (k : ℕ) → each t (k + 1) ≡ each t k && t k
unfolding each
each_more t k = ap (each t) (add-one k)

-- whether place n clashes with none before it
abbrev pub clear_at : List ℕ → List ℕ → List ℕ → ℕ → Bool
clear_at numbers starts ends n = each (λ (i : ℕ). not (clash_at numbers starts ends n i)) n
