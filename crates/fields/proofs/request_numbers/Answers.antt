-- `fields::request_numbers` meets its contract, by the mark; a plain request's numbers are the first eight of the nine.
use Rattle.std.proofs.Common.{◌≡◌, refl, Bool, true, false, cond, List, [], ◌∷◌, ◌++◌, ℕ, get_or, length, replicate, ap, sym, ◌∙◌, eq-eqb, ne_eqb}
use Rattle.lemmas.specs.BigEndian.{read_all}
use Rattle.rules.specs.Frame.{plain_widths}
use Rattle.fields.specs.Records.{request_read}
use Rattle.fields.proofs.request_numbers.Goals as goal

-- eight numbers of a list, and 0 for the ninth
nine : List ℕ → List ℕ
nine v =
    get_or v 0 0 ∷ get_or v 1 0 ∷ get_or v 2 0 ∷ get_or v 3 0 ∷ get_or v 4 0 ∷ get_or v 5 0 ∷ get_or v 6 0 ∷ get_or v 7 0 ∷ 0 ∷ []

-- they are all that is read
nine-read : (s : List ℕ) (i : ℕ) (b : Bool)
    → let v = cond b (read_all s i plain_widths) (replicate (length plain_widths) 0) in nine v ≡ v ++ (0 ∷ [])
unfolding nine read_all
nine-read s i true = refl
nine-read s i false = refl

pub returns-then-number-from : goal.returns-then-number-from
unfolding request_read
returns-then-number-from c =
    rw (← c.number.ensures.0, eq-eqb _ _ (c.if-number-from.true ∙ c.from.ensures)) c.numbers_in.ensures

pub returns : goal.returns
unfolding request_read nine
returns c =
    rw (← c.number.ensures.0, ne_eqb _ _ (λ e. c.if-number-from.false (e ∙ sym c.from.ensures)))
    (ap nine c.numbers_in-2.ensures ∙ nine-read c.args.s.now c.args.at _)
