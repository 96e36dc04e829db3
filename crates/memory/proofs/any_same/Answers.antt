-- The search is over all of both rows (any_by), which are also the rows from place 0 on (from_first) and those in steps of one
-- (each_one).
use Rattle.std.proofs.Common.{◌≡◌, Bool, true, false, cond, ℕ, ◌+◌, ◌≤◌, List, [], ◌∷◌, length, subst, sym, refl, ◌∙◌, arith, rules, tests}
use Rattle.std.specs.Prelude.{Option, MatchOption}
use Rattle.std.specs.declared.option.Option.TheVariants.{None, Some}
use Rattle.std.specs.Fn.{Called}
use denote.Param.Members.{Mut}
use Rattle.std.specs.Iterator.{AlwaysYields, YieldsThen}
use Rattle.std.specs.Iterator.Runs.{Run}
use Rattle.std.specs.List.{FoldsTo, list_any, zip}
use Rattle.std.specs.declared.iter.Skip.{Skip}
use Rattle.std.specs.declared.iter.StepBy.{StepBy}
use Rattle.std.specs.declared.iter.Zip.{Zip}
use denote.Ref.{Bor}
use Rattle.std.specs.Iterator.Adapters.{zip_first, zip_second, zip_steps, skip_source, skip_count, skip_steps, step_by_source, step_by_gap, step_by_first_take, step_by_steps}
use Rattle.std.proofs.lemmas.Iterator.{YieldsList, YieldsList-from_slice, YieldsList-from_zip}
use Rattle.std.proofs.lemmas.Iterator.Adapters.{YieldsList-from_skip}
use Rattle.std.proofs.lemmas.Iterator.Consumers.{YieldsList-at}
use Rattle.std.proofs.lemmas.Iterator.Search.{any_from_yields_List}
use Rattle.std.proofs.lemmas.List.{nil_from_length}
use Rattle.rules.specs.Drive.{same_entry}
use Rattle.memory.specs.Memory.{entry_of}
use Rattle.memory.proofs.any_same.Goals as goal

module _ {S A B : Type 0} {steps : S → Option A → S → Type 0} {v : A → B} {ys : List B} where
  from_first : {s : Skip S} {t : S} → skip_source s ≡ t → skip_count s ≡ 0 → YieldsList steps v t ys → YieldsList (skip_steps steps) v s ys
  from_first same n e = YieldsList-from_skip 0 (YieldsList-at same e) n

module _ {S A B : Type 0} (steps : S → Option A → S → Type 0) (v : A → B) where
  at_most : (r : Option A) (k n : ℕ) → MatchOption r (k ≤ n) (λ _. k ≡ n) → k ≤ n
  at_most None k n h = h
  at_most (Some x) k n h = let e : k ≡ n = h in omega arith

  no_gap : (b : Bool) (g : ℕ) → g ≡ 0 → cond b 0 g ≡ 0
  no_gap true g e = refl
  no_gap false g e = e

  one : (s t : StepBy S) (r : Option A) → step_by_gap s ≡ 0 → step_by_steps steps s r t → steps (step_by_source s) r (step_by_source t)
  one s t r e p =
      let q = p.2 in
      let few = at_most r (length q.1) q.0 q.4 in
      let none = no_gap (step_by_first_take s) (step_by_gap s) e in
      let empty : q.1 ≡ [] = nil_from_length q.1 (omega (arith, few, none, q.2)) in
      let w = subst (λ xs. YieldsThen steps (step_by_source s) xs r (step_by_source t)) empty q.3 in
      subst (λ u. steps u r (step_by_source t)) (sym w.1) w.2

  each : (ys : List B) (s : StepBy S) → step_by_gap s ≡ 0 → AlwaysYields steps v (step_by_source s) ys → AlwaysYields (step_by_steps steps) v s ys
  each [] s e a = λ x t p. a x (step_by_source t) (one s t (Some x) e p)
  each (y ∷ ys) s e a = (
    (λ t p. a.0 (step_by_source t) (one s t None e p)),
    λ x t p. let m = a.1 x (step_by_source t) (one s t (Some x) e p) in (m.0, each ys t (p.0 ∙ e) m.1),
  )

module _ {S A B : Type 0} {steps : S → Option A → S → Type 0} {v : A → B} {ys : List B} where
  each_one : {s : StepBy S} {t : S} → step_by_source s ≡ t → step_by_gap s + 1 ≡ 1 → YieldsList steps v t ys → YieldsList (step_by_steps steps) v s ys
  each_one {s} same n e = let m = YieldsList-at same e in record { runs = each steps v ys s (omega (arith, n)) m.runs }

module _ {S T A B : Type 0} {steps : S → Option (Bor A) → S → Type 0} {others : T → Option (Bor B) → T → Type 0} {xs : List A} {ys : List B} where
  zipped : {s : Zip S T} {t : S} → zip_first s ≡ t → YieldsList steps (λ y. y.now) t xs → YieldsList others (λ y. y.now) (zip_second s) ys
      → YieldsList {B = A × B} (zip_steps steps others) (λ p. (p.0.now, p.1.now)) s (zip xs ys)
  zipped same e f = YieldsList-from_zip (YieldsList-at same e) f

-- a run of the search tells where it begins
any_by : {S A B F : Type 0} {steps : S → Option A → S → Type 0} (v : A → B) {g : Mut F (A × Unit {0}) Bool} {s : S} (all : List B) (test : B → Bool) (p : Run steps) → p.from ≡ s
    → (u : S) (f : F) (r : Bool) → (xs : List A) × (o : Option A) × (j : F) × YieldsThen steps s xs o u × FoldsTo (λ p x q. Called g p (x, tt) false q) f xs j × MatchOption o (r ≡ false) (λ x. (r ≡ true) × ((h : F) × Called g j (x, tt) true h))
    → YieldsList steps v s all → ((x : A) (b : Bool) (q : F) → Called g f (x, tt) b q → (q ≡ f) × (b ≡ test (v x))) → r ≡ list_any test all
any_by v all test p from u f r ran road k = any_from_yields_List test u f r ran road k

pub returns : goal.returns
returns c =
    let a = c.args in
    any_by (λ p. (p.0.now, p.1.now)) (zip a.numbers.now a.times.now) (λ p. same_entry a.e (entry_of p.0 p.1)) c.any.ensures.runs.0 c.any.ensures.runs.1 c.any.new.self _ _ c.any.ensures.ran
    (first_of (search (rules, zipped, YieldsList-from_slice), search (rules, from_first, each_one, zipped, YieldsList-from_slice))) (λ x b q k. search (rules, tests))
