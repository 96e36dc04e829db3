-- `group::group_row` meets its contract: the list is walked to its end.
use Rattle.std.proofs.Common.{◌≡◌, Bool, true, false, ◌%◌, ◌<◌, ◌≤◌, not, sym, ap, ◌∙◌, length, take, length-take, ℕ, eqb, arith, rules}
use Rattle.std.proofs.lemmas.List.{length-map, get_or-map}
use Rattle.std.specs.Int.{w32, from_be_bytes}
use borrow.Author.Tests.{eqb-true, eqb-false, leb-true, leb-false, not-true, not-false}
use mathlib.Core.List.{List, map}
use Rattle.rules.proofs.Refused.{row_handed_on, refused_tells, passed_tells, row_last}
use Rattle.rules.specs.declared.refusal.Refusal.TheVariants.{NotListed}
use Rattle.rules.specs.Group.{members_in, rising}
use Rattle.group.specs.GroupRow.{has, members_are, walk_on, walk_odd, walk_falls, walk_end, row_falls, row_walked}
use Rattle.group.proofs.group_row.Goals as goal

-- what stands behind the numbers, or as much of it as the length's remainder says
cut : (n m : ℕ) (xs : List ℕ) → length xs ≡ m % 4 → n ≡ length xs % 4 → length (take n xs) ≡ m % 4
cut n m xs e f = length-take n xs ∙ omega (arith, e, f)

some_behind : (r : Bool) (l m : ℕ) → r ≡ eqb l 0 → not r ≡ true → l ≡ m → m ≡ 0 → ⊥
some_behind r l m e h f g = eqb-false l 0 (sym e ∙ not-true r h) (f ∙ g)

none_behind : (r : Bool) (l m : ℕ) → r ≡ eqb l 0 → not r ≡ false → l ≡ m → m ≡ 0
none_behind r l m e h f = sym f ∙ eqb-true l 0 (sym e ∙ not-false r h)

pub returns-in_err-refuse : goal.returns-in_err-refuse
returns-in_err-refuse c =
    let a = c.args in
    let h = refused_tells _ _ _ c.in_err-refuse.ensures in
    let odd = some_behind c.is_empty.result _ (length a.bytes.now % 4) c.is_empty.ensures h.0 (first_of (search rules, search (rules, cut))) in
    row_handed_on _ _ c.from_residual.ensures.1 ∙ rw h.1 (sym (walk_odd a.bytes.now a.member odd))

pub returns-in_err-refuse-2 : goal.returns-in_err-refuse-2
returns-in_err-refuse-2 c =
    let a = c.args in
    let l = c.loop-place in
    let h = refused_tells _ _ _ c.in_err-refuse-2.ensures in
    let none_left = none_behind c.is_empty.result _ (length a.bytes.now % 4) c.is_empty.ensures (passed_tells _ _ _ c.in_ok-refuse.ensures) (first_of (search rules, search (rules, cut))) in
    let ns : List ℕ = map (from_be_bytes w32) c.as_chunks.result.0.now in
    let within : l.place-index < length ns = rw length-map c.loop-place-test.true in
    let all : members_in a.bytes.now ≡ ns = members_are a.bytes.now ∙ ap (map (from_be_bytes w32)) (sym c.as_chunks.ensures.front) in
    let number = c.from_be_bytes-number.ensures ∙ sym (get_or-map (from_be_bytes w32) _ _ _ 0 c.loop-place-test.true) in
    let falls = walk_falls ns a.member l.place-index l.last _ l.found l.invariant within number (leb-true _ _ h.0) in
    row_handed_on _ _ c.from_residual-in_err-refuse-2.ensures.1
    ∙ rw h.1 (sym (row_falls a.bytes.now a.member none_left (ap (rising 0) all ∙ falls)))

pub loop-place-preserved : goal.loop-place-preserved
loop-place-preserved c =
    let a = c.args in
    let l = c.loop-place in
    let ns : List ℕ = map (from_be_bytes w32) c.as_chunks.result.0.now in
    let within : l.place-index < length ns = rw length-map c.loop-place-test.true in
    let number = c.from_be_bytes-number.ensures ∙ sym (get_or-map (from_be_bytes w32) _ _ _ 0 c.loop-place-test.true) in
    walk_on ns a.member l.place-index l.last _ l.found l.invariant within number
    (leb-false _ _ (passed_tells _ _ _ c.in_ok-refuse-2.ensures))

pub returns : goal.returns
returns c =
    let a = c.args in
    let l = c.loop-place in
    let none_left = none_behind c.is_empty.result _ (length a.bytes.now % 4) c.is_empty.ensures (passed_tells _ _ _ c.in_ok-refuse.ensures) (first_of (search rules, search (rules, cut))) in
    let ns : List ℕ = map (from_be_bytes w32) c.as_chunks.result.0.now in
    let past : length ns ≤ l.place-index = rw length-map c.loop-place-test.false in
    let all : members_in a.bytes.now ≡ ns = members_are a.bytes.now ∙ ap (map (from_be_bytes w32)) (sym c.as_chunks.ensures.front) in
    let end = walk_end ns a.member l.place-index l.last l.found l.invariant past in
    rw c.refuse-2.ensures (row_last (not l.found) NotListed)
    ∙ sym (row_walked a.bytes.now a.member l.found none_left (ap (rising 0) all ∙ end.0)
    (ap (has a.member) all ∙ end.1))
