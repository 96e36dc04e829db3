-- An array with a count, as the rules' list, whatever the count says.
use Rattle.std.specs.Prelude.{◌≡◌, take, replicate}
use Rattle.std.proofs.Common.{◌∙◌}
use mathlib.Core.List.{List, ◌++◌, append-nil}
use Prim.Native.Nat.{ℕ, ◌-◌, ◌≤◌, min}
use native.Mathlib.Omega.{arith}
use Rattle.std.proofs.Math.ListN.{length, length-append, length-take, length-replicate}

module _ {A : Type 0} where
  -- the first `count` elements; where the array has fewer, blanks for those that it lacks
  unfoldable pub padded : ℕ → A → ℕ → List A → List A
  padded most blank count items = take count items ++ replicate (count - most) blank

  -- a count within the array
  pub padded_is : (most : ℕ) (blank : A) (count : ℕ) (items : List A) → count ≤ most
      → padded most blank count items ≡ take count items
  unfolding padded
  padded_is most blank count items h =
      let e : count - most ≡ 0 = omega arith in
      rw (e, append-nil (take count items))

  -- the list is as long as the count says
  pub padded-length : (most : ℕ) (blank : A) (count : ℕ) (items : List A) → length items ≡ most
      → length (padded most blank count items) ≡ count
  unfolding padded
  padded-length most blank count items h =
      let a : length (take count items) ≡ min count (length items) = length-take count items in
      let b : length (replicate (count - most) blank) ≡ count - most = length-replicate (count - most) blank in
      length-append (take count items) (replicate (count - most) blank) ∙ omega arith
