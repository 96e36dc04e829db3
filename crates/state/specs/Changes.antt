-- Operations 4 to 6 of document 01, operation 8 of document 02, and format: what each makes of a partition's table.
-- t: the table; u: the table afterwards.
use Rattle.std.specs.Prelude.{◌≡◌, cond, List, [], ◌∷◌, ◌++◌, ℕ, ◌+◌, length, get_or, set}
use Rattle.lemmas.specs.Tests.{◌is◌, ◌isnt◌, ◌under◌}
use Rattle.lemmas.specs.Lists.{keep, change}
use Rattle.lemmas.specs.Fronts.{with_front}
use Rattle.rules.specs.declared.Object.{Object}
use Rattle.rules.specs.declared.Need.{Need}
use Rattle.rules.specs.Drive.{most_objects}
use Rattle.rules.specs.Needs.{default_needs}
use Rattle.rules.specs.Operations.{with_version}
use Rattle.state.specs.Table.{version_at, last_at, count_at, table_size, places, objects_in, needs_in}

-- what a table says: its version, the last version given, its count, its operation table,
-- and the objects at all its places
pub record Content : Type 0 where
  pub version : ℕ
  pub last : ℕ
  pub count : ℕ
  pub needs : List Need
  pub objects : List Object

abbrev pub content_of : List ℕ → Content
content_of t = record {
  version = get_or t version_at 0;
  last = get_or t last_at 0;
  count = get_or t count_at 0;
  needs = needs_in t;
  objects = places t;
}

-- the same with other objects
abbrev pub with_objects : List Object → Content → Content
with_objects os c = record { version = c.version; last = c.last; count = c.count; needs = c.needs; objects = os }

-- u is as long as t and says c
pub record HasContent (t u : List ℕ) (c : Content) : Type 0 where
  pub long : length u ≡ length t
  pub says : content_of u ≡ c

-- a table now says c; a list that is no table is as it was
pub record ChangedTo (t u : List ℕ) (c : Content) : Type 0 where
  pub table : length t ≡ table_size → HasContent t u c
  pub other : (length t ≡ table_size → ⊥) → u ≡ t

-- the table with the objects f at the first places, and the table with o at place i; all else as it was
abbrev pub content_with_front : List Object → List ℕ → Content
content_with_front f t = with_objects (with_front f (places t)) (content_of t)

abbrev pub content_with_object : ℕ → Object → List ℕ → Content
content_with_object i o t = with_objects (set (places t) i o) (content_of t)

-- 4. "object or partition gets the next version", which is v; object 0 means the partition
unfoldable pub raised_content : ℕ → ℕ → List ℕ → Content
raised_content number v t = record {
  version = cond (number is 0) v (get_or t version_at 0);
  last = v;
  count = get_or t count_at 0;
  needs = needs_in t;
  objects = cond (number is 0) (places t) (with_front (change Object.number number (with_version v) (objects_in t)) (places t));
}

-- 5. one object more behind the others, where there is room; its version is the last given
unfoldable pub created_content : Object → List ℕ → Content
created_content o t = record {
  version = get_or t version_at 0;
  last = o.version;
  count = cond (get_or t count_at 0 under most_objects) (get_or t count_at 0 + 1) (get_or t count_at 0);
  needs = needs_in t;
  objects = cond (get_or t count_at 0 under most_objects) (with_front (objects_in t ++ (o ∷ [])) (places t)) (places t);
}

-- 6. "the object goes": those of other numbers, in their order
abbrev pub other_objects : ℕ → List ℕ → List Object
other_objects number t = keep (λ (a : Object). a.number isnt number) (objects_in t)

unfoldable pub deleted_content : ℕ → List ℕ → Content
deleted_content number t = record {
  version = get_or t version_at 0;
  last = get_or t last_at 0;
  count = length (other_objects number t);
  needs = needs_in t;
  objects = with_front (other_objects number t) (places t);
}

-- 8. the operation table is another
abbrev pub content_with_needs : List Need → List ℕ → Content
content_with_needs needs t = record {
  version = get_or t version_at 0;
  last = get_or t last_at 0;
  count = get_or t count_at 0;
  needs = needs;
  objects = places t;
}

-- what operation i + 1 needs is another
abbrev pub content_with_need : ℕ → Need → List ℕ → Content
content_with_need i n t = content_with_needs (set (needs_in t) i n) t

-- format: no object in use, both versions the first, document 01's rule
abbrev pub emptied_content : ℕ → List ℕ → Content
emptied_content first t = record { version = first; last = first; count = 0; needs = default_needs; objects = places t }
