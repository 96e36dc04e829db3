-- Operations 4 to 6 of document 01 and 8 of document 02: what each operation makes of its partition's table t, where the new
-- version v, the new extent's start and the operation table of the data are given. n: the object's number.
use Rattle.std.specs.Prelude.{List, ℕ}
use Rattle.rules.specs.declared.Need.{Need}
use Rattle.rules.specs.declared.Operation.{Operation}
use Rattle.rules.specs.declared.Operation.TheVariants.{Read, Write, Look, Raise, Create, Delete, SetKey, LoadTable}
use Rattle.state.specs.Changes.{Content, content_of, raised_content, created_content, deleted_content, content_with_needs}

-- four operations leave the table as it is
abbrev pub content_after : Operation → ℕ → ℕ → ℕ → List Need → List ℕ → Content
content_after (Read offset length) n v start needs t = content_of t
content_after (Write offset length) n v start needs t = content_of t
content_after Look n v start needs t = content_of t
content_after Raise n v start needs t = raised_content n v t
content_after (Create number size) n v start needs t =
    created_content (record { number = number; version = v; size = size; start = start }) t
content_after Delete n v start needs t = deleted_content n t
content_after (SetKey target) n v start needs t = content_of t
content_after LoadTable n v start needs t = content_with_needs needs t
