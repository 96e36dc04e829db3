-- Laws of the lines: of two lists of calls, of calls by their rows and lengths, and of a line put behind others.
use Rattle.std.specs.Prelude.{◌≡◌, refl, Bool, true, false, cond, List, [], ◌∷◌, ◌++◌, map, ℕ, suc, ◌+◌, ◌≤◌, ◌<◌, length, drop, get_or}
use Rattle.std.proofs.Common.{sym, ap, ◌∙◌, append_assoc, append-nil, arith, drop_of_length-le, length-append, drop-cons}
use Rattle.rules.specs.Program.{AnsweredCall, cut, decimal, ended, lines_from, printed}
use Rattle.lines.specs.Decimal.{length_digits}
use Rattle.gate.specs.Promises.{lines_of}

pub lines_both : (n : ℕ) (l r : List AnsweredCall) → lines_from n (l ++ r) ≡ lines_from n l ++ lines_from (n + length l) r
unfolding lines_from
lines_both n [] r = let z : n ≡ n + 0 = omega arith in ap (λ (k : ℕ). lines_from k r) z
lines_both n (a ∷ l) r =
    let line : List ℕ = printed (n + 1) a.row a.length in
    let k : n + 1 + length l ≡ n + suc (length l) = omega arith in
    ap (λ (x : List ℕ). line ++ x) (lines_both (n + 1) l r)
    ∙ ap (λ (j : ℕ). line ++ (lines_from (n + 1) l ++ lines_from j r)) k
    ∙ sym (append_assoc line (lines_from (n + 1) l) (lines_from (n + suc (length l)) r))

pub lines_of_lem : (n : ℕ) (l : List AnsweredCall) → lines_of n (map AnsweredCall.row l) (map AnsweredCall.length l) ≡ lines_from n l
unfolding lines_from lines_of
lines_of_lem n [] = refl
lines_of_lem n (a ∷ l) = ap (λ (x : List ℕ). printed (n + 1) a.row a.length ++ x) (lines_of_lem (n + 1) l)

-- a loop that puts one after the other: text are the lines of the first i
pub lines_start : (n : ℕ) (rows lengths : List ℕ) → lines_of n rows lengths ≡ [] ++ lines_of (n + 0) (drop 0 rows) (drop 0 lengths)
lines_start n rows lengths = let z : n ≡ n + 0 = omega arith in ap (λ (k : ℕ). lines_of k rows lengths) z

pub lines_step : (n i : ℕ) (rows lengths text text' : List ℕ) → i < length rows → length rows ≡ length lengths
    → lines_of n rows lengths ≡ text ++ lines_of (n + i) (drop i rows) (drop i lengths)
    → text' ≡ text ++ printed (n + i + 1) (get_or rows i 0) (get_or lengths i 0)
    → lines_of n rows lengths ≡ text' ++ lines_of (n + (i + 1)) (drop (i + 1) rows) (drop (i + 1) lengths)
unfolding lines_of
lines_step n i rows lengths text text' h e before line =
    let t : List ℕ = printed (n + i + 1) (get_or rows i 0) (get_or lengths i 0) in
    let j : suc i ≡ i + 1 = omega arith in
    let k : n + i + 1 ≡ n + (i + 1) = omega arith in
    let rest : List ℕ = lines_of (n + i + 1) (drop (suc i) rows) (drop (suc i) lengths) in
    before
    ∙ ap (λ (x : List ℕ). text ++ lines_of (n + i) x (drop i lengths)) (drop-cons rows i 0 h)
    ∙ ap (λ (x : List ℕ). text ++ lines_of (n + i) (get_or rows i 0 ∷ drop (suc i) rows) x)
    (drop-cons lengths i 0 (omega (arith, h, e)))
    ∙ sym (append_assoc text t rest)
    ∙ ap (λ (x : List ℕ). x ++ rest) (sym line)
    ∙ ap (λ (m : ℕ). text' ++ lines_of (n + i + 1) (drop m rows) (drop m lengths)) j
    ∙ ap (λ (m : ℕ). text' ++ lines_of m (drop (i + 1) rows) (drop (i + 1) lengths)) k

pub lines_end : (n i : ℕ) (rows lengths text : List ℕ) → length rows ≤ i
    → lines_of n rows lengths ≡ text ++ lines_of (n + i) (drop i rows) (drop i lengths)
    → text ≡ lines_of n rows lengths
unfolding lines_of
lines_end n i rows lengths text h e =
    sym (e ∙ ap (λ (x : List ℕ). text ++ lines_of (n + i) x (drop i lengths)) (drop_of_length-le rows {i = i} h) ∙ append-nil text)

-- the last line is no longer than any other
pub last_short : (b : Bool) (n : ℕ) → length (cond b (ended n) (cut n)) ≤ 63
last_short true n = omega (arith, length_digits 20 n, length-append (decimal n) (10 ∷ []))
last_short false n = omega (arith, length_digits 20 n, length-append (decimal n) (10 ∷ []))
