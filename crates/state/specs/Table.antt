-- Document 01, "Drive state": a partition's table, a list of numbers, as the rules see it. t: a table.
use Rattle.std.specs.Prelude.{cond, List, [], ◌∷◌, map, ℕ, zero, suc, ◌+◌, length, get_or, take}
use Rattle.lemmas.specs.Tests.{◌is◌}
use Rattle.rules.specs.declared.Object.{Object}
use Rattle.rules.specs.declared.Need.{Need}
use Rattle.rules.specs.Drive as rules
use Rattle.rules.specs.Drive.{most_objects}
use Rattle.rules.specs.Needs.{needs_count}
use Rattle.rules.specs.Operations.{no_object}
use Rattle.state.specs.Padded.{padded}

-- the places of the partition's version, of the last version given, and of the count of objects
abbrev pub version_at : ℕ
version_at = 0

abbrev pub last_at : ℕ
last_at = 1

abbrev pub count_at : ℕ
count_at = 2

-- the first places of the objects' numbers, versions, sizes and starts; there are as many of each as a partition may
-- have objects
abbrev pub numbers_from : ℕ
numbers_from = 3

abbrev pub versions_from : ℕ
versions_from = numbers_from + most_objects

abbrev pub sizes_from : ℕ
sizes_from = versions_from + most_objects

abbrev pub starts_from : ℕ
starts_from = sizes_from + most_objects

-- the first places of the operation table's masks and least levels, one of each for operations 1 to 7
abbrev pub masks_from : ℕ
masks_from = starts_from + most_objects

abbrev pub leasts_from : ℕ
leasts_from = masks_from + needs_count

-- how many numbers there are
abbrev pub table_size : ℕ
table_size = leasts_from + needs_count

-- the object at place i
unfoldable pub object_at : List ℕ → ℕ → Object
object_at t i = record {
  number = get_or t (numbers_from + i) 0;
  version = get_or t (versions_from + i) 0;
  size = get_or t (sizes_from + i) 0;
  start = get_or t (starts_from + i) 0;
}

-- the n numbers from a on
abbrev pub range : ℕ → ℕ → List ℕ
range a zero = []
range a (suc n) = a ∷ range (a + 1) n

-- the objects at all its places, in use or not
unfoldable pub places : List ℕ → List Object
places t = map (object_at t) (range 0 most_objects)

-- how many of them are in use: none where the list is no table
abbrev pub count_in : List ℕ → ℕ
count_in t = cond (length t is table_size) (get_or t count_at 0) 0

-- "Objects: at most 16 a partition, in order of creation"
unfoldable pub objects_in : List ℕ → List Object
objects_in t = take (count_in t) (places t)

-- the operation table (document 02, change 5): what operation i + 1 needs, and all seven
unfoldable pub need_in : List ℕ → ℕ → Need
need_in t i = record { mask = get_or t (masks_from + i) 0; least = get_or t (leasts_from + i) 0 }

unfoldable pub needs_in : List ℕ → List Need
needs_in t = map (need_in t) (range 0 needs_count)

-- its version, the last version given, its operation table and its objects
unfoldable pub partition_in : List ℕ → rules.Partition Object
partition_in t = record { version = get_or t version_at 0; last = get_or t last_at 0; needs = needs_in t; objects = objects_in t }

-- the same where the count may be over sixteen: then there are that many objects, the last of them with number 0, so that
-- such a table is not sound
unfoldable pub partition_view : List ℕ → rules.Partition Object
partition_view t = record {
  version = get_or t version_at 0;
  last = get_or t last_at 0;
  needs = needs_in t;
  objects = padded most_objects no_object (get_or t count_at 0) (places t);
}
