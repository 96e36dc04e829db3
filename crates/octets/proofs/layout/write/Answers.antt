-- `octets::layout::write` meets its contract.
use Rattle.std.proofs.Common.{rules, ◌≡◌, sym, ◌∙◌, ℕ, ◌+◌, List, [], ◌∷◌, ◌++◌, length, arith, length-append}
use Rattle.std.proofs.lemmas.Slice.Zip.{zip_turn, zip_end}
use Rattle.octets.proofs.FieldLaws.{ahead_next, field_fits, write_step, write-end}
use Rattle.octets.proofs.layout.write.Goals as goal

pub put_at-requires : goal.put_at-requires
put_at-requires c =
    let l = c.loop-w in
    let a = c.args in
    let t = zip_turn a.widths.now a.numbers.now l.yielded c.into_iter-w-iterator.result l.w-iterator c.next.new.self c.next.result (search rules) (search rules) l.yielded_by (c.in-Some.w, c.in-Some.x) c.in-Some.is c.next.ensures.steps in
    omega (arith, t.2 0, (field_fits a.widths.now (length l.yielded) l.place (length a.s.now) l.invariant.0 t.0).0)

pub overflow_add-place : goal.overflow_add-place
overflow_add-place c =
    let l = c.loop-w in
    let a = c.args in
    let t = zip_turn a.widths.now a.numbers.now l.yielded c.into_iter-w-iterator.result l.w-iterator c.next.new.self c.next.result (search rules) (search rules) l.yielded_by (c.in-Some.w, c.in-Some.x) c.in-Some.is c.next.ensures.steps in
    omega (arith, t.2 0, (field_fits a.widths.now (length l.yielded) l.place (length a.s.now) l.invariant.0 t.0).0)

pub loop-w-preserved : goal.loop-w-preserved
loop-w-preserved c =
    let l = c.loop-w in
    let a = c.args in
    let ws : List ℕ = a.widths.now in
    let n = length l.yielded in
    let t = zip_turn ws a.numbers.now l.yielded c.into_iter-w-iterator.result l.w-iterator c.next.new.self c.next.result (search rules) (search rules) l.yielded_by (c.in-Some.w, c.in-Some.x) c.in-Some.is c.next.ensures.steps in
    let e : length (l.yielded ++ ((c.in-Some.w, c.in-Some.x) ∷ [])) ≡ n + 1 = length-append l.yielded ((c.in-Some.w, c.in-Some.x) ∷ []) in
    rw (e, c.put_at.ensures, t.2 0, t.3 0) (
      ahead_next ws n l.place (length a.s.now) l.invariant.0 t.0,
      l.invariant.1,
      write_step ws n l.place (length a.s.now) l.invariant.0 t.0 l.s a.numbers.now t.1 (omega arith) ∙ l.invariant.2,
    )

pub returns : goal.returns
returns c =
    let l = c.loop-w in
    let a = c.args in
    let n = zip_end a.widths.now a.numbers.now l.yielded c.into_iter-w-iterator.result l.w-iterator c.next.new.self c.next.result (search rules) (search rules) l.yielded_by c.in-None.is c.next.ensures.steps in
    rw (← c.if-not-fields_fit.ensures) (sym (write-end a.widths.now a.numbers.now l.s (length l.yielded) l.place (omega (arith, l.invariant.1))) ∙ l.invariant.2)
