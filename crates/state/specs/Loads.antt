-- Laws of the two loops that fill an operation table, operation 8's and format's: what operation k needs is f k.
-- t: the table; u: the table later on.
use Rattle.std.specs.Prelude.{◌≡◌, refl, List, map, ℕ, ◌+◌, ◌<◌, length, get_or, set}
use Rattle.std.proofs.Common.{sym, ap, ◌∙◌, not-suc-le-zero, arith, get_or-set_same, get_or-set_other}
use Rattle.std.proofs.Math.Decide.{ℕ_discrete}
use Rattle.rules.specs.declared.Need.{Need}
use Rattle.rules.specs.Needs.{default_need, needs_count, table_operations}
use Rattle.state.specs.Table.{version_at, last_at, count_at, table_size, need_in, needs_in}
use Rattle.state.specs.Places.{needs-length, needs_at_lem}
use Rattle.state.specs.Changes.{Content, HasContent, content_with_needs, content_with_need}
use Rattle.state.specs.Stores.{need_stored, need-stored-length, need-stored-head, places-need-stored, needs-need-stored}

-- one need stored
pub content-need : (t : List ℕ) (i : ℕ) (n : Need) → length t ≡ table_size → i < needs_count
    → HasContent t (need_stored t i n) (content_with_need i n t)
content-need t i n l h = record {
  long = need-stored-length t i n;
  says = rw (
    need-stored-head t i n version_at (omega arith),
    need-stored-head t i n last_at (omega arith),
    need-stored-head t i n count_at (omega arith),
    needs-need-stored t i n l h,
    places-need-stored t i n,
  );
}

-- the first i operations have theirs, and all else is as it was
pub record Filling (f : ℕ → Need) (t u : List ℕ) (i : ℕ) : Type 0 where
  pub content : HasContent t u (content_with_needs (needs_in u) t)
  pub each : (k : ℕ) → k < i → get_or (needs_in u) k (default_need 0) ≡ f (k + 1)

pub filling_start : (f : ℕ → Need) (t : List ℕ) → Filling f t t 0
filling_start f t = record { content = record { long = refl; says = refl }; each = λ k h. absurd (not-suc-le-zero h) }

-- one operation more
pub filling_next : (f : ℕ → Need) (t u w : List ℕ) (i : ℕ) (n : Need) → Filling f t u i → i < needs_count
    → n ≡ f (i + 1) → HasContent u w (content_with_need i n u) → Filling f t w (i + 1)
filling_next f t u w i n s h e b = record {
  content = record {
    long = b.long ∙ s.content.long;
    says = b.says ∙ ap (with_new (set (needs_in u) i n)) s.content.says
        ∙ ap (λ (l : List Need). content_with_needs l t) (sym new);
  };
  each = λ k m. ap (λ (l : List Need). get_or l k (default_need 0)) new ∙ at k m (ℕ_discrete k i);
}
  where
    with_new : List Need → Content → Content
    with_new l c = record { version = c.version; last = c.last; count = c.count; needs = l; objects = c.objects }

    new : needs_in w ≡ set (needs_in u) i n
    new = ap Content.needs b.says

    at : (k : ℕ) → k < i + 1 → Dec (k ≡ i) → get_or (set (needs_in u) i n) k (default_need 0) ≡ f (k + 1)
    at k m (yes q) =
        ap (λ (j : ℕ). get_or (set (needs_in u) i n) j (default_need 0)) q
        ∙ get_or-set_same (needs_in u) i n (default_need 0) (omega (arith, needs-length u))
        ∙ e ∙ ap (λ (j : ℕ). f (j + 1)) (sym q)
    at k m (no q) = get_or-set_other (needs_in u) i k n (default_need 0) q ∙ s.each k (omega arith)

-- all seven
pub filled : (f : ℕ → Need) (t u : List ℕ) (i : ℕ) → i ≡ needs_count → Filling f t u i
    → HasContent t u (content_with_needs (map f table_operations) t)
unfolding needs_in
filled f t u i e s = record {
  long = s.content.long;
  says = s.content.says ∙ ap (λ (l : List Need). content_with_needs l t) all;
}
  where
    at : (k : ℕ) → k < needs_count → need_in u k ≡ f (k + 1)
    at k h = sym (needs_at_lem u k (default_need 0) h) ∙ s.each k (omega arith)

    all : needs_in u ≡ map f table_operations
    all = rw (
      at 0 (omega arith),
      at 1 (omega arith),
      at 2 (omega arith),
      at 3 (omega arith),
      at 4 (omega arith),
      at 5 (omega arith),
      at 6 (omega arith),
    ) refl
