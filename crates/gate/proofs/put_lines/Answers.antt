-- The loop's invariant: what is put are the first lines, and those of the other calls are to come.
use Rattle.std.proofs.Common.{◌≡◌, ◌∙◌, List, ℕ, ◌+◌, ◌≤◌, ◌<◌, length, map, take, get_or, arith, sym, ap₂, ◌++◌, le-leb}
use Rattle.std.proofs.lemmas.List.{get_or-map, length-map}
use Rattle.rules.specs.Program.{printed}
use Rattle.lines.specs.Decimal.{length-printed}
use Rattle.lines.specs.Placed.{text_put_lem}
use Rattle.reader.specs.Promises.{answered_length, answered_row}
use Rattle.gate.specs.Lines.{lines_end, lines_start, lines_step}
use Rattle.gate.proofs.put_lines.Goals as goal

pub loop-i-init : goal.loop-i-init
loop-i-init c = (omega arith, lines_start _ _ _)

pub loop-i-preserved : goal.loop-i-preserved
loop-i-preserved c =
    let l = c.loop-i in
    let a = c.args in
    let p = c.put_line-put in
    let rows : List ℕ = map answered_row a.answers.now in
    let lengths : List ℕ = map answered_length a.answers.now in
    let within : l.i < length a.answers.now = omega (arith, c.loop-i-test.true) in
    let row : c.row.result ≡ get_or rows l.i 0 = c.row.ensures ∙ sym (get_or-map answered_row a.answers.now l.i _ 0 within) in
    let size : c.length.result ≡ get_or lengths l.i 0 =
    c.length.ensures ∙ sym (get_or-map answered_length a.answers.now l.i _ 0 within) in
    let t : List ℕ = printed (a.n + l.i + 1) c.row.result c.length.result in
    let short : length t ≤ 63 = length-printed (a.n + l.i + 1) c.row.result c.length.result in
    let room : l.put + length t ≤ length l.out = omega (arith, l.invariant.0, l.auto.out, within, c.requires.0, short) in
    let place : p.result ≡ l.put + length t = p.ensures.1 ∙ (rw (le-leb (l.put + length t) (length l.out) room)) in
    let line : take p.result p.new.space ≡ take l.put l.out ++ printed (a.n + l.i + 1) (get_or rows l.i 0) (get_or lengths l.i 0) =
    text_put_lem l.out l.put t p.result p.new.space room p.ensures
    ∙ ap₂ (λ (k n : ℕ). take l.put l.out ++ printed (a.n + l.i + 1) k n) row size in (
      omega (arith, place, l.invariant.0, short),
      lines_step a.n l.i rows lengths (take l.put l.out) (take p.result p.new.space)
          (omega (arith, within, length-map a.answers.now answered_row))
          (length-map a.answers.now answered_row ∙ sym (length-map a.answers.now answered_length)) l.invariant.1 line,
    )

pub returns : goal.returns
returns c =
    let l = c.loop-i in
    let a = c.args in (
      omega (arith, l.invariant.0, c.requires.0, l.auto.i-end),
      lines_end a.n l.i (map answered_row a.answers.now) (map answered_length a.answers.now) (take l.put l.out)
          (omega (arith, c.loop-i-test.false, length-map a.answers.now answered_row)) l.invariant.1,
    )
