-- The partitions' tables in their places (`tables_in`), as chunks: how many, one of them, another in its place, and all of them
-- made those of partitions that have nothing.
use mathlib.Core.Path.{◌≡◌, refl, sym, ap, ◌∙◌}
use mathlib.Core.Bool.{Bool, ◌&&◌}
use mathlib.Core.List.{List, [], ◌∷◌, map}
use Rattle.std.specs.List.{list_all}
use Rattle.lemmas.specs.Lists.{every}
use Prim.Native.Nat.{ℕ, zero, suc, ◌+◌, ◌*◌, ◌<◌}
use native.Mathlib.Decide.{ℕ_discrete}
use native.Mathlib.Nat.{le_of_suc-le-suc, not-suc-le-zero}
use native.Mathlib.Omega.{arith}
use borrow.Rule.Slice.PartMut.{mid_of, put_mid, same_len_mid}
use lib.ListN.{length, get_or, set, drop, replicate, length-drop, length-map, length-replicate, get_or-replicate}
use lib.Seq.{ext_get_or, get_or-set_same, get_or-set_other, length-take-le}
use Rattle.lemmas.specs.Chunks.{chunks-length, chunks_at, chunks_put}
use Rattle.rules.specs.declared.Object.{Object}
use Rattle.rules.specs.Drive.{empty_partition, Partition}
use Rattle.keyring.specs.Keys.{partition_count}
use Rattle.state.specs.Table.{table_size, partition_view}
use Rattle.drive.specs.View.{tables_in}

pub tables-length : (n : ℕ) (l : List ℕ) → length (tables_in n l) ≡ n
tables-length n l = chunks-length table_size n l

pub tables_at : (n i : ℕ) (l : List ℕ) → i < n → get_or (tables_in n l) i [] ≡ mid_of (table_size * i) table_size l
tables_at n i l h = chunks_at table_size n i l h

pub tables_put : (n i : ℕ) (l u : List ℕ) → i < n → length l ≡ table_size * n → length u ≡ table_size
    → tables_in n (put_mid (table_size * i) table_size l u) ≡ set (tables_in n l) i u
tables_put n i l u h e k = chunks_put table_size n i l u h (omega arith) k

-- a mapped element that is there, whatever stands for those that are not
pub map_at : {A B : Type 0} (f : A → B) (l : List A) (i : ℕ) (d : A) (e : B) → i < length l
    → get_or (map f l) i e ≡ f (get_or l i d)
map_at f [] i d e h = absurd (not-suc-le-zero h)
map_at f (x ∷ l) zero d e h = refl
map_at f (x ∷ l) (suc i) d e h = map_at f l i d e (le_of_suc-le-suc h)

-- every element, in the words of a chain
pub all_every : {A : Type 0} (t : A → Bool) (l : List A) → list_all t l ≡ every t l
unfolding every
all_every t [] = refl
all_every t (x ∷ l) = ap (λ (b : Bool). t x && b) (all_every t l)

-- ---- the first i tables are of partitions that have nothing
pub record Emptied (first : ℕ) (l : List ℕ) (i : ℕ) : Type 0 where
  pub long : length l ≡ partition_count * table_size
  pub each : (k : ℕ) → k < i → partition_view (get_or (tables_in partition_count l) k []) ≡ empty_partition first

pub emptied_none : (first : ℕ) (l : List ℕ) → length l ≡ partition_count * table_size → Emptied first l 0
emptied_none first l e = record { long = e; each = λ k h. absurd (not-suc-le-zero h) }

-- table i, as the code lends it
pub lent_long : {first i width : ℕ} {l : List ℕ} → Emptied first l i → i < partition_count → width ≡ table_size
    → length (mid_of (table_size * i) width l) ≡ table_size
lent_long {first} {i} {width} {l} w h wide =
    length-take-le width (drop (table_size * i) l) (omega (arith, length-drop (table_size * i) l, w.long)) ∙ wide

-- one table more: u in the place of table i
pub emptied_next : (first i width : ℕ) (l u : List ℕ) → Emptied first l i → i < partition_count → width ≡ table_size
    → length u ≡ length (mid_of (table_size * i) width l) → partition_view u ≡ empty_partition first
    → Emptied first (put_mid (table_size * i) width l u) (i + 1)
emptied_next first i width l u w h wide long-u empty = record {
  long = same_len_mid (table_size * i) width l u long-u ∙ w.long;
  each = λ k m. ap (λ (ts : List (List ℕ)). partition_view (get_or ts k [])) tables_is ∙ at k m (ℕ_discrete k i);
}
  where
    tables_is : tables_in partition_count (put_mid (table_size * i) width l u) ≡ set (tables_in partition_count l) i u
    tables_is =
        ap (λ (n : ℕ). tables_in partition_count (put_mid (table_size * i) n l u)) wide
        ∙ tables_put partition_count i l u h w.long (long-u ∙ lent_long w h wide)

    at : (k : ℕ) → k < i + 1 → Dec (k ≡ i)
        → partition_view (get_or (set (tables_in partition_count l) i u) k []) ≡ empty_partition first
    at k m (yes e) =
        ap (λ (j : ℕ). partition_view (get_or (set (tables_in partition_count l) i u) j [])) e
        ∙ ap partition_view (get_or-set_same (tables_in partition_count l) i u [] (omega (arith, tables-length partition_count l)))
        ∙ empty
    at k m (no e) =
        ap partition_view (get_or-set_other (tables_in partition_count l) i k u [] e) ∙ w.each k (omega arith)

-- all of them
pub all_emptied : (first i : ℕ) (l : List ℕ) → i ≡ partition_count → Emptied first l i
    → map partition_view (tables_in partition_count l) ≡ replicate partition_count (empty_partition first)
all_emptied first i l e w =
    ext_get_or none (map partition_view (tables_in partition_count l)) (replicate partition_count none)
    (long ∙ sym (length-replicate partition_count none))
    (λ k h.
    let m : k < partition_count = omega (arith, long) in
    map_at partition_view (tables_in partition_count l) k [] none (omega (arith, tables-length partition_count l))
    ∙ w.each k (omega arith) ∙ sym (get_or-replicate partition_count k none none m))
  where
    none : Partition Object
    none = empty_partition first

    long : length (map partition_view (tables_in partition_count l)) ≡ partition_count
    long = length-map (tables_in partition_count l) partition_view ∙ tables-length partition_count l
