-- `octets::same` meets its contract.
use Rattle.std.proofs.Common.{rules, ◌≡◌, refl, sym, ◌∙◌, ℕ, suc, ◌+◌, ◌/◌, Bool, true, false, ◌&&◌, List, [], ◌∷◌, ◌++◌, length, take, eqb, add-one, arith, take-suc, length-take-le, take_all, eq-eqb, eqb-true, length-append}
use lib.Bits.{bit_and, bit_or, bit_xor, or_add_and, xor_add_and, and_le_l, and_le_r, xor_self, or_zero_l, or_lt, xor_lt}
use borrow.Author.Tests.{ne_eqb, eqb-false}
use Rattle.std.proofs.lemmas.Slice.Zip.{zip_turn, zip_end}
use Rattle.lemmas.specs.Same.{same_lengths, same_snoc, same_refl}
use Rattle.octets.proofs.same.Goals as goal

-- a byte's differences join: there is none exactly if there was none before and the two bytes are the same
joined : (d x y : ℕ) → eqb (bit_or d (bit_xor x y)) 0 ≡ (eqb d 0 && eqb x y)
joined d x y = by-case (eqb d 0) (eqb x y) refl refl
  where
    above : d + bit_xor x y ≡ bit_or d (bit_xor x y) + bit_and d (bit_xor x y)
    above = sym (or_add_and d (bit_xor x y))

    by-case : (t u : Bool) → eqb d 0 ≡ t → eqb x y ≡ u → eqb (bit_or d (bit_xor x y)) 0 ≡ (t && u)
    by-case true true p q = eq-eqb (bit_or d (bit_xor x y)) 0 (rw (eqb-true d 0 p, eqb-true x y q, xor_self, or_zero_l))
    by-case true false p q = ne_eqb (bit_or d (bit_xor x y)) 0 (λ e. eqb-false x y q (omega (arith, above, eqb-true d 0 p, and_le_l d (bit_xor x y), xor_add_and x y, and_le_l x y, and_le_r x y)))
    by-case false u p q = ne_eqb (bit_or d (bit_xor x y)) 0 (λ e. eqb-false d 0 p (omega (arith, above, and_le_r d (bit_xor x y))))

-- all of a list, by a count that is its length
whole : (a : List ℕ) → take (length a / 1) a ≡ a
whole a = take_all (length a / 1) a (omega arith)

pub returns-then-a-b : goal.returns-then-a-b
returns-then-a-b c = sym (same_lengths _ _ c.if-a-b.true)

pub loop-x-init : goal.loop-x-init
loop-x-init c = (omega arith, same_refl [])

pub loop-x-preserved : goal.loop-x-preserved
loop-x-preserved c =
    let l = c.loop-x in
    let a = c.args.a.now in
    let b = c.args.b.now in
    let n = length l.yielded in
    let x = c.in-Some.x.now in
    let y = c.in-Some.y.now in
    let t = zip_turn a b l.yielded c.into_iter-x-iterator.result l.x-iterator c.next.new.self c.next.result (search (rules, whole)) (search rules) l.yielded_by (c.in-Some.x, c.in-Some.y) c.in-Some.is c.next.ensures.steps in
    let e : length (l.yielded ++ ((c.in-Some.x, c.in-Some.y) ∷ [])) ≡ suc n = length-append l.yielded ((c.in-Some.x, c.in-Some.y) ∷ []) ∙ add-one n in (
      or_lt 8 l.diff (bit_xor x y) l.invariant.0 (xor_lt 8 x y (omega (arith, t.2 0, c.type_inv.a n)) (omega (arith, t.3 0, c.type_inv.b n))),
      rw (e, take-suc a n 0 t.0, take-suc b n 0 t.1, ← t.2 0, ← t.3 0, same_snoc (take n a) (take n b) x y (length-take-le n a (omega arith) ∙ sym (length-take-le n b (omega arith))), l.invariant.1) (sym (joined l.diff x y)),
    )

pub returns : goal.returns
returns c =
    let l = c.loop-x in
    let a = c.args.a.now in
    let b = c.args.b.now in
    let n = zip_end a b l.yielded c.into_iter-x-iterator.result l.x-iterator c.next.new.self c.next.result (search (rules, whole)) (search rules) l.yielded_by c.in-None.is c.next.ensures.steps in
    sym l.invariant.1 ∙ cc (take_all (length l.yielded) a (omega arith), take_all (length l.yielded) b (omega arith))
