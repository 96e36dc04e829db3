-- A record is decoded from what was read of the bytes lent, which is the record itself only where it is all there. s: the
-- bytes lent; size: how many the record has; long: how many it has by its own mark.
use mathlib.Core.Path.{◌≡◌, refl, sym, ap, ◌∙◌}
use mathlib.Core.Bool.{◌||◌, Bool, cond, false, true, true≢false}
use mathlib.Core.List.{List}
use Prim.Native.Nat.{ℕ, ◌+◌, ◌≤◌}
use native.Mathlib.Omega.{arith}
use lib.Dec.{leb}
use lib.ListN.{length}
use borrow.Author.Tests.{eqb-true, le-leb, not-false}
use Rattle.lemmas.specs.Tests.{◌is◌, ◌isnt◌, or_intro_r, or_l, or_r}
use Rattle.rules.specs.declared.Request.{Request}
use Rattle.rules.specs.Frame.{request_length}
use Rattle.records.specs.Coding.{request_unmarked, size_by}

-- there: the record at the start of s; none: what is read where it is not all there, which the tests refuse; wrong: the tests on
-- its fields; no, of: the answers
module _ {A D : Type 0} (s : List ℕ) (size long : ℕ) (there none : A) (wrong : A → Bool) (no : D) (of : A → D)
    (whole : wrong there ≡ false → long ≤ size) (refused : wrong none ≡ true) where
  abbrev bad : A → Bool
  bad x = length s isnt size || wrong x

  -- what is not all there is refused by its length or its fields
  short : leb (0 + long) (length s) ≡ false → bad there ≡ true
  short e = go (bad there) refl
    where
      go : (b : Bool) → bad there ≡ b → b ≡ true
      go true t = refl
      go false t =
          let l : length s ≡ size =
          eqb-true (length s) size (not-false (length s is size) (or_l (length s isnt size) (wrong there) t)) in
          let h : long ≤ size = whole (or_r (length s isnt size) (wrong there) t) in
          absurd (true≢false (sym (le-leb (0 + long) (length s) (omega (arith, l, h))) ∙ e))

  -- so the answer goes by the tests on what is there
  same_answer : (b : Bool) → leb (0 + long) (length s) ≡ b
      → cond (bad (cond b there none)) no (of (cond b there none)) ≡ cond (bad there) no (of there)
  same_answer true e = refl
  same_answer false e = rw (or_intro_r (length s isnt size) (wrong none) refused, short e) refl

  pub decoded_by : (x : A) → x ≡ cond (leb (0 + long) (length s)) there none → (b : Bool) → bad x ≡ b
      → cond b no (of x) ≡ cond (bad there) no (of there)
  decoded_by x is_read b t =
      ap (λ (y : Bool). cond y no (of x)) (sym t)
      ∙ ap (λ (y : A). cond (bad y) no (of y)) is_read
      ∙ same_answer (leb (0 + long) (length s)) refl

-- a request with a mark has the length that the mark tells
pub request_long : (magic : ℕ) (r : Request) → request_unmarked magic r ≡ false → request_length r ≤ size_by magic
unfolding request_length
request_long magic r e = rw (eqb-true r.magic magic (not-false (r.magic is magic) e)) (omega arith)

-- so a request's own length may be tested in the place of its mark's
pub by_mark : (n magic : ℕ) (r : Request) → (n isnt request_length r || request_unmarked magic r) ≡ (n isnt size_by magic || request_unmarked magic r)
unfolding request_length
by_mark n magic r = go (request_unmarked magic r) refl
  where
    go : (b : Bool) → request_unmarked magic r ≡ b → (n isnt request_length r || b) ≡ (n isnt size_by magic || b)
    go true e = or_intro_r (n isnt request_length r) true refl ∙ sym (or_intro_r (n isnt size_by magic) true refl)
    go false e = ap (λ (m : ℕ). n isnt size_by m || false) (eqb-true r.magic magic (not-false (r.magic is magic) e))
