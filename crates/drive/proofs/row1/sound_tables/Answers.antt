-- r is that of the first i tables (every_take), in the view (every_mapped); a table is one part of the array (tables_at).
use mathlib.Core.Path.{◌≡◌, refl, sym, ap, subst, ◌∙◌}
use mathlib.Core.Bool.{true}
use mathlib.Core.List.{List, []}
use Prim.Native.Nat.{ℕ, ◌+◌, ◌-◌, ◌*◌, ◌≤◌, ◌<◌}
use native.Mathlib.Omega.{arith}
use borrow.Rule.Slice.PartMut.{mid_of}
use lib.ListN.{length, get_or, drop, length-take, length-drop}
use lib.Seq.{take_all}
use borrow.Author.Tests.{le-leb, eq-eqb}
use Rattle.lemmas.specs.Lists.{every}
use Rattle.lemmas.specs.ListLaws.{every_mapped}
use Rattle.lemmas.specs.Loops.{every_take}
use Rattle.lemmas.specs.Tests.{and_l, and_r, both}
use Rattle.rules.specs.Drive.{most_objects, sound_partition}
use Rattle.state.specs.Table.{count_at, table_size, partition_view}
use Rattle.drive.specs.View.{objects_fit, tables_in}
use Rattle.drive.proofs.Tables.{tables_at, tables-length}
use Rattle.keyring.specs.Keys.{partition_count}
use Rattle.drive.proofs.row1.sound_tables.Goals as goal

-- the part lent is the table
the-table : (l : List ℕ) (i : ℕ) → i < partition_count → length l ≡ partition_count * table_size
    → (mid_of (table_size * i) (table_size * i + table_size - table_size * i) l ≡ get_or (tables_in partition_count l) i [])
    × (length (mid_of (table_size * i) (table_size * i + table_size - table_size * i) l) ≡ table_size)
the-table l i h e =
    let k : table_size * i + table_size - table_size * i ≡ table_size = omega arith in
    let a = length-take (table_size * i + table_size - table_size * i) (drop (table_size * i) l) in
    let b = length-drop (table_size * i) l in
    (ap (λ (n : ℕ). mid_of (table_size * i) n l) k ∙ sym (tables_at partition_count i l h), omega arith)

pub loop-i-init : goal.loop-i-init
unfolding every
loop-i-init c = (refl, λ h. refl)

pub loop-i-preserved : goal.loop-i-preserved
loop-i-preserved c =
    let l = c.loop-i in
    let a = c.args in
    let s = c.sound_table-r in
    let T = tables_in partition_count a.tables.now in
    let n = tables-length partition_count a.tables.now in
    let low : l.i < partition_count = omega arith in
    let h : l.i < length T = omega arith in
    let it = the-table a.tables.now l.i low c.requires in
    let sound : s.result ≡ sound_partition a.quarter (partition_view (get_or T l.i [])) =
    s.ensures.0 ∙ rw (eq-eqb _ table_size it.1) (ap (λ (t : List ℕ). sound_partition a.quarter (partition_view t)) it.0) in
    let fewer : s.result ≡ true → get_or (get_or T l.i []) count_at 0 ≤ most_objects =
    λ e. subst (λ (t : List ℕ). get_or t count_at 0 ≤ most_objects) it.0 (s.ensures.1 e) in (
      rw (every_take (λ (t : List ℕ). sound_partition a.quarter (partition_view t)) T l.i [] h, l.invariant.0, sound),
      λ e. rw (every_take objects_fit T l.i [] h)
          (both (l.invariant.1 (and_l l.r s.result e)) (le-leb (get_or (get_or T l.i []) count_at 0) most_objects (fewer (and_r l.r s.result e)))),
    )

pub returns : goal.returns
returns c =
    let l = c.loop-i in
    let a = c.args in
    let T = tables_in partition_count a.tables.now in
    let n = tables-length partition_count a.tables.now in
    let all = take_all l.i T (omega arith) in
    ((rw all at l.invariant.0) ∙ every_mapped (sound_partition a.quarter) partition_view T, λ e. rw all at (l.invariant.1 e))
