-- Row 12 answers repeats alone, over the code's own contract: by the rules' own theorem on the same calls.
use mathlib.Core.Path.{◌∙◌, ◌≡◌, ap, refl, subst, sym}
use mathlib.Core.List.{[], ◌++◌, ◌∷◌, append_assoc, List}
use native.Mathlib.Omega.{arith}
use lib.ListN.{drop, get_or, length, length-append}
use Rattle.rules.specs.Demands as rules
use Rattle.rules.specs.Demands.{answer, State}
use Rattle.rules.specs.Gate.{Call}
use Rattle.rules.specs.TwoHeads as rules_heads
use Rattle.rules.specs.TwoHeads.{Share}
use Rattle.rules.proofs.TwoHeads as rules_proofs
use Rattle.drive.specs.Chain.{after, Chain, CallMade, DriveState, viewed}
use Rattle.drive.specs.ChainRepeats.{AllOfOnlyRepeats, OnlyRepeats}
use Rattle.drive.proofs.Calls.{calls_of, chain_after, chain_rest, formatted, row_met}

-- the calls l with one that brought x between two parts, of which the first brought `front`
record Split (l : List CallMade) (front : List Call) (x : Call) : Type 0 where
  first : List CallMade
  middle : CallMade
  last : List CallMade
  whole : l ≡ first ++ (middle ∷ last)
  before : calls_of first ≡ front
  here : middle.call ≡ x

split : (l : List CallMade) (front between : List Call) (x : Call) → calls_of l ≡ front ++ (x ∷ between) → Split l front x
split [] front between x e = absurd (omega (arith, ap length e, length-append front (x ∷ between)))
split (c ∷ l) [] between x e = record {
  first = [];
  middle = c;
  last = l;
  whole = refl;
  before = refl;
  here = ap (λ (r : List Call). get_or r 0 x) e;
}
split (c ∷ l) (y ∷ front) between x e =
    let r = split l front between x (ap (drop 1) e) in
    record {
      first = c ∷ r.first;
      middle = r.middle;
      last = r.last;
      whole = ap (λ (w : List CallMade). c ∷ w) r.whole;
      before = λ i. ap (λ (w : List Call). get_or w 0 x) e i ∷ r.before i;
      here = r.here;
    }

module _ (s : DriveState) (calls : List CallMade) (k : Chain s calls)
    (t : (before : List Call) (c : Call) → (answer (rules.after (viewed s) before) c).row ≡ 12
    → rules_heads.Repeats (viewed s) before c) where
  -- the row of a call that stands behind others
  answered : (before later : List CallMade) (c : CallMade) → Chain s (before ++ (c ∷ later))
      → (answer (rules.after (viewed s) (calls_of before)) c.call).row ≡ c.answer.row
  unfolding Chain
  answered before later c m =
      ap (λ (u : State). (answer u c.call).row) (chain_after s before (c ∷ later) m)
      ∙ row_met (after s before) c (chain_rest s before (c ∷ later) m).0

  only : OnlyRepeats calls
  only before later c e row =
      let m : Chain s (before ++ (c ∷ later)) = subst (Chain s) e k in
      let p = t (calls_of before) c.call (answered before later c m ∙ row) in
      let q = split before p.front p.between p.first p.split in
      let n : Chain s (q.first ++ (q.middle ∷ (q.last ++ (c ∷ later)))) =
      subst (Chain s) (ap (λ (l : List CallMade). l ++ (c ∷ later)) q.whole ∙ append_assoc q.first (q.middle ∷ q.last) (c ∷ later)) m in
      record {
        front = q.first;
        first = q.middle;
        between = q.last;
        split = q.whole;
        granted = sym (answered q.first (q.last ++ (c ∷ later)) q.middle n)
            ∙ (λ i. (answer (rules.after (viewed s) (q.before i)) (q.here i)).row) ∙ p.granted;
        shared = subst (λ (x : Call). Share x c.call) (sym q.here) p.shared;
      }

pub only_repeats : AllOfOnlyRepeats
only_repeats medium F master key r zeroed calls made =
    only (record { drive = r.drive; medium = zeroed }) calls made.chain
    (subst (λ (u : State). (before : List Call) (c : Call) → (answer (rules.after u before) c).row ≡ 12
    → rules_heads.Repeats u before c) (formatted medium F master key r zeroed made.format)
    (rules_proofs.only_repeats medium F master key))
