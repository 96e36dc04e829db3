-- Zeros stand behind the byte 80, up to `end` or, where that is before it, up to the byte itself: filled_is, take_filled.
use Rattle.std.proofs.Common.{rules, ◌≡◌, ℕ, ◌+◌, ◌-◌, ◌≤◌, [], ◌∷◌, ◌++◌, length, take, drop, set, replicate, sym, ap, ◌∙◌, add-one, arith, length-append, length-drop, length-set, length-take-le, take-suc-set, take-take}
use Rattle.std.proofs.lemmas.List.{length-replicate}
use Rattle.std.proofs.lemmas.Slice.{take-put_mid}
use borrow.Rule.Slice.PartMut.{put_mid}
use Rattle.sha256_block.specs.PaddingCases.{zero_filled}
use Rattle.sha256_block.proofs.PaddingCasesLaws.{filled_is, take_filled}
use Rattle.sha256_stream.proofs.marked.Goals as goal

pub returns : goal.returns
returns c =
    let a = c.args in
    let n = a.used + 1 in
    let e = c.max.result in
    let k = e - n in
    let q = set a.pending a.used 0x80 in
    let s = take a.used a.pending ++ 0x80 ∷ [] in
    let r = put_mid n k q c.fill.new.self in
    let low : n ≤ e = omega arith in
    let high : e ≤ 64 = omega arith in
    let lp : length a.pending ≡ 64 = search rules in
    let lq : length q ≡ 64 = length-set a.pending a.used 0x80 ∙ lp in
    let zeros : c.fill.new.self ≡ replicate k 0 =
    c.fill.ensures.after (λ y e. e) ∙ ap (λ m. replicate m 0) (length-take-le k (drop n q) (omega (arith, length-drop n q))) in
    let front : take n q ≡ s = rw (add-one a.used) (take-suc-set a.pending a.used 0x80 (omega arith)) in
    let ls : length s ≡ n = length-append (take a.used a.pending) (0x80 ∷ []) ∙ rw (length-take-le a.used a.pending (omega arith)) in
    let whole : take e r ≡ zero_filled e s =
    take-put_mid n k q c.fill.new.self e (omega (arith, ap length zeros, length-replicate {A = ℕ} k 0)) (omega arith)
    ∙ rw (front, zeros) (sym (filled_is s k e (omega arith))) in
    sym (take-take a.end e r (omega arith)) ∙ ap (take a.end) whole ∙ take_filled a.end e s (omega arith)
