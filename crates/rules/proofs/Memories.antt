-- The replay memories: a grant's entry is there and drops no other; an entry stays while its time and 5,000 are at
-- least the mark; row 22 leaves room for one more.
use mathlib.Core.Path.{◌≡◌, refl, subst}
use mathlib.Core.Bool.{Bool, false, true}
use mathlib.Core.List.{[], ◌∷◌, List, map}
use Prim.Native.Nat.{◌+◌, ◌<◌, ◌≤◌, ℕ}
use native.Mathlib.Omega.{arith}
use lib.Dec.{eqb, leb}
use lib.ListN.{length, length-append}
use borrow.Author.Tests.{eq-eqb, eqb-true, le-leb, leb-true}
use Rattle.lemmas.specs.ListLaws.{
  every_imp,
  every_map,
  every_nth,
  every-update,
  length-keep,
  some_append_l,
  some_append_r,
}
use Rattle.lemmas.specs.Lists.{every, keep, some?, update}
use Rattle.lemmas.specs.Tests.{and_l, and_r, both, tests}
use Rattle.rules.specs.declared.Entry.{Entry}
use Rattle.rules.specs.declared.Object.{Object}
use Rattle.rules.specs.Drive.{Drive, lives, same_entry}
use Rattle.rules.specs.Frame.{entry, Fields, memory_index}
use Rattle.rules.specs.Operations.{remember}
use Rattle.rules.specs.Rows.{row22}
use Rattle.rules.specs.Scope.{Scope, drive_scope}

remember-length : (x : Fields) (l : List Entry) → length (remember x l) ≡ length l + 1
unfolding remember
remember-length x l = length-append l (entry x.cred x.req ∷ [])

pub remember_keeps : (t : Entry → Bool) (x : Fields) (l : List Entry) → some? t l ≡ true
    → some? t (remember x l) ≡ true
unfolding remember
remember_keeps t x l h = some_append_l t l (entry x.cred x.req ∷ []) h

pub remember-has : (t : Entry → Bool) (x : Fields) (l : List Entry) → t (entry x.cred x.req) ≡ true
    → some? t (remember x l) ≡ true
unfolding remember
remember-has t x l h = some_append_r t l (entry x.cred x.req) h

-- a memory of at most 64 entries that row 22 does not refuse has fewer
pub room_left : (s : Scope Object) → row22 s ≡ false → leb (length s.memory) 64 ≡ true → length s.memory < 64
unfolding row22
room_left s h k = omega tests

-- ---- memories of at most 64 entries
abbrev pub short : List Entry → Bool
short l = leb (length l) 64

-- they stay so without their outlived entries
pub short_kept : (mark : ℕ) (ms : List (List Entry)) → every short ms ≡ true
    → every short (map (keep (lives mark)) ms) ≡ true
short_kept mark ms h =
    every_map short (keep (lives mark)) ms (every_imp short (λ (es : List Entry). short (keep (lives mark) es))
    (λ es k. le-leb (length (keep (lives mark) es)) 64
    (omega (arith, length-keep (lives mark) es, leb-true (length es) 64 k))) ms h)

-- and with a grant's entry, which row 22 let in
pub short_entered : (d : Drive) (x : Fields) → row22 (drive_scope d x.cred) ≡ false → every short d.memories ≡ true
    → every short (update (memory_index x.cred) (λ (old : List Entry). remember x (drive_scope d x.cred).memory) d.memories) ≡ true
short_entered d x r h =
    let before : List Entry = (drive_scope d x.cred).memory in
    every-update short (memory_index x.cred) (λ (old : List Entry). remember x before) d.memories []
    (le-leb (length (remember x before)) 64 (omega (
      arith,
      remember-length x before,
      room_left (drive_scope d x.cred) r (every_nth short d.memories (memory_index x.cred) [] refl h),
    ))) h

-- ---- entries
eqb_self : (n : ℕ) → eqb n n ≡ true
eqb_self n = eq-eqb n n refl

same_time : (a b : Entry) → same_entry a b ≡ true → a.time ≡ b.time
unfolding same_entry
same_time a b e = eqb-true a.time b.time (search (and_l, and_r))

pub same_entry_lem : (a : Entry) → same_entry a a ≡ true
unfolding same_entry
same_entry_lem a = search (both, eqb_self)

-- an entry whose time and 5,000 are not under the mark is not dropped
not_under : (mark t : ℕ) → (t < mark → ⊥) → mark ≤ t
not_under mark t h = omega arith

pub still_lives : (mark : ℕ) (a e : Entry) → (a.time + 5000 < mark → ⊥) → same_entry a e ≡ true → lives mark e ≡ true
still_lives mark a e h s =
    le-leb mark (e.time + 5000)
    (subst (λ (t : ℕ). mark ≤ t + 5000) (same_time a e s) (not_under mark (a.time + 5000) h))
