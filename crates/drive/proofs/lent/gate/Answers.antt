-- Row 1; the mark and outlived entries; rows 2 to 6; then what `admit` gave (Gates, Scopes).
use mathlib.Core.Path.{◌≡◌, refl, sym, ap, ◌∙◌}
use mathlib.Core.Bool.{Bool, true, false, ◌&&◌, not}
use mathlib.Core.List.{List, [], map}
use Prim.Native.Nat.{ℕ, ◌<◌, max}
use native.Mathlib.Omega.{arith}
use lib.Dec.{leb}
use lib.ListN.{length, get_or}
use borrow.Author.Tests.{eqb-true}
use Rattle.lemmas.specs.Lists.{every, keep, some?}
use Rattle.lemmas.specs.Tests.{◌is◌, and_l, and_r}
use Rattle.rules.specs.declared.Credential.{Credential}
use Rattle.rules.specs.declared.Entry.{Entry}
use Rattle.rules.specs.Frame.{entry, memory_index}
use Rattle.rules.specs.Refusals.{answer_length, answer_row}
use Rattle.rules.specs.Rows.{row1}
use Rattle.rules.specs.Drive.{largest_medium, lives, quarter, sound, sound_partition, same_entry, refresh}
use Rattle.wire.specs.declared.ParsedRequest.{ParsedRequest}
use Rattle.std.specs.Prelude.{Ok, Err}
use Rattle.wire.specs.Parse.{answer_of, frame_answer, frame_row, numbers_of}
use Rattle.wire.specs.ParseLaws.{answered-refused, answered-row}
use Rattle.keyring.specs.Keys.{partition_count}
use Rattle.memory.specs.Memory.{memory_count}
use Rattle.state.specs.Table.{partition_view}
use Rattle.drive.specs.declared.Drive.{Drive}
use Rattle.drive.specs.View.{view, tables_in, memories_of, objects_fit, entries_fit, MemoriesFit, CountsFit}
use Rattle.drive.specs.Admission.{ParsedTo}
use Rattle.drive.specs.Met.{call_of}
use Rattle.drive.specs.Lent.{record_of, PartsFit}
use Rattle.drive.proofs.Admitting.{and_length, and_row, handed_on, row_not_zero}
use Rattle.drive.proofs.Frames.{in_four, in_five, starts_hold}
use Rattle.drive.proofs.Memories.{refreshed-view, sound-view}
use Rattle.drive.proofs.Gates.{gate_unready, gate-framed, frame_not_1, meets}
use Rattle.drive.proofs.Scopes.{ready_row1, Opened, mem, long_part, ready, met_refused, has_room, met_granted}
use borrow.Author.Rules.{rules}
use Rattle.drive.proofs.lent.gate.Goals as goal

-- ---- the parse gave the frame's fields
module _ (f : List ℕ) (cred : Credential) (req : ParsedRequest) (told : answer_of (Ok (record { credential = cred; request = req })) ≡ frame_answer f) where
  parsed-of : ParsedTo f cred req
  parsed-of = record { answer = told }

  low-memory : (k : ℕ) → k ≡ memory_index cred → k < memory_count
  low-memory k e = let h = in_five parsed-of in omega (arith, e)

-- ---- what row 1's test is of, and what it promises
abbrev test_of : Drive → ℕ → Bool
test_of d n =
    leb d.size largest_medium && every (sound_partition (quarter d.size)) (map partition_view (tables_in partition_count d.tables))
    && every entries_fit d.lengths && n is d.size

abbrev Tested : Drive → ℕ → Bool → Type 0
Tested d n b = (b ≡ test_of d n) × (b ≡ true → every objects_fit (tables_in partition_count d.tables) ≡ true)

-- ---- the record d that is lent, the medium m, and row 1's test b of them
module _ (d : Drive) (m : List ℕ) (w : PartsFit d.keys d.tables d.lengths d.entries d.times) (b : Bool)
    (t : Tested d (length m) b) where
  tested : b ≡ (sound (view d) && length m is d.size)
  tested = t.0 ∙ ap (λ (a : Bool). a && length m is d.size) (sym (sound-view d w.lengths w.entries w.times))

  refused1 : b ≡ false → row1 (view d) m ≡ true
  unfolding view
  refused1 e = ready_row1 (view d) m b tested ∙ ap not e

  -- row 1 does not apply: the record is sound, the medium its own, no count passes its array
  module _ (pass : b ≡ true) where
    row1-of : row1 (view d) m ≡ false
    unfolding view
    row1-of = ready_row1 (view d) m b tested ∙ ap not pass

    whole : (sound (view d) && length m is d.size) ≡ true
    whole = sym tested ∙ pass

    sound-of : sound (view d) ≡ true
    sound-of = and_l (sound (view d)) (length m is d.size) whole

    size-of : length m ≡ d.size
    size-of = eqb-true (length m) d.size (and_r (sound (view d)) (length m is d.size) whole)

    counted : CountsFit d
    counted =
        let A = leb d.size largest_medium && every (sound_partition (quarter d.size)) (map partition_view (tables_in partition_count d.tables)) in
        let all = and_l (A && every entries_fit d.lengths) (length m is d.size) (sym t.0 ∙ pass) in
        record {
          keys = w.keys;
          tables = w.tables;
          objects = t.1 pass;
          memories = record {
            five = w.lengths;
            short = and_r A (every entries_fit d.lengths) all;
            entries = w.entries;
            times = w.times;
          };
        }

    -- ---- after drop_outlived: the drive at the clock reading
    module _ (clock mark : ℕ) (ns es ts : List ℕ) (later : mark ≡ max d.highwater clock)
        (kept : (memories_of ns es ts ≡ map (keep (lives mark)) (memories_of d.lengths d.entries d.times)) × MemoriesFit ns es ts) where
      abbrev now : Drive
      now = record_of d.size mark d.keys d.tables ns es ts

      view_of : view now ≡ refresh clock (view d)
      view_of = refreshed-view d clock mark ns es ts later kept.0

      counted_of : CountsFit now
      counted_of = record { keys = counted.keys; tables = counted.tables; objects = counted.objects; memories = kept.1 }

      -- ---- the frame's scope is taken out of the drive
      module _ (f : List ℕ) (cred : Credential) (req : ParsedRequest) (told : answer_of (Ok (record { credential = cred; request = req })) ≡ frame_answer f)
          (k : ℕ) (placed : k ≡ memory_index cred) (nonce : Entry) (is_nonce : nonce ≡ entry cred (numbers_of req))
          (replayed : Bool) (found : replayed ≡ some? (same_entry nonce) (get_or (memories_of ns es ts) k [])) where
        abbrev opened : Opened
        opened = record {
          lent = d;
          fresh = now;
          clock = clock;
          medium = m;
          frame = f;
          cred = cred;
          request = req;
          memory = k;
          replayed = replayed;
          viewed = view_of;
          keys = refl;
          tables = refl;
          counted = counted_of;
          whole = sound-of;
          size = size-of;
          parsed = parsed-of f cred req told;
          placed = placed;
          found = found ∙ ap (λ (e : Entry). some? (same_entry e) (get_or (memories_of ns es ts) k [])) is_nonce;
        }

pub returns-then-not-passes_row1 : goal.returns-then-not-passes_row1
returns-then-not-passes_row1 c =
    let a = c.args in
    let fit : PartsFit a.keys.now a.tables.now a.lengths.now a.entries.now a.times.now = record {
      keys = search rules;
      tables = search rules;
      lengths = search rules;
      entries = search rules;
      times = search rules;
    } in
    let d = record_of a.size a.highwater.now a.keys.now a.tables.now a.lengths.now a.entries.now a.times.now in
    meets d a.medium.now (call_of a.frame.now a.clock a.reply.now) _ _ _ _
    (gate_unready (view d) a.medium.now a.frame.now a.clock a.reply.now
    (refused1 d a.medium.now fit c.passes_row1.result c.passes_row1.ensures c.if-not-passes_row1.true))
    refl refl refl (λ k. refl) (λ n. (refl, refl)) refl refl

pub returns-in_default : goal.returns-in_default
returns-in_default c =
    let a = c.args in
    let fit : PartsFit a.keys.now a.tables.now a.lengths.now a.entries.now a.times.now = record {
      keys = search rules;
      tables = search rules;
      lengths = search rules;
      entries = search rules;
      times = search rules;
    } in
    let d = record_of a.size a.highwater.now a.keys.now a.tables.now a.lengths.now a.entries.now a.times.now in
    let l = c.drop_outlived.new in
    let f = a.frame.now in
    let e = c.in_default.field-0 in
    let t : answer_of (Err e) ≡ frame_answer f = c.in_default.ensures in
    let r : answer_row c.and.result ≡ frame_row f =
    ap answer_row c.and.ensures ∙ and_row c.parse-parsed.result 0 ∙ answered-row f c.parse-parsed.result c.parse-parsed.ensures in
    let n : answer_length c.and.result ≡ 0 = ap answer_length c.and.ensures ∙ and_length c.parse-parsed.result in
    let z : frame_row f ≡ 0 → ⊥ = λ h. (answered-refused f e t).1 ((answered-refused f e t).0 ∙ h) in
    meets d a.medium.now (call_of f a.clock a.reply.now) _ _ _ _
    (gate-framed (view d) a.medium.now f a.clock a.reply.now
    (row1-of d a.medium.now fit c.passes_row1.result c.passes_row1.ensures c.if-not-passes_row1.false) z) r n
    (view_of d a.medium.now fit c.passes_row1.result c.passes_row1.ensures c.if-not-passes_row1.false a.clock c.max-mark.result
    l.lengths l.entries l.times c.max-mark.ensures c.drop_outlived.ensures)
    (λ k. absurd (frame_not_1 f (sym r ∙ k))) (λ n. (refl, refl)) refl refl

pub is_replayed-replayed-requires : goal.is_replayed-replayed-requires
is_replayed-replayed-requires c =
    (c.drop_outlived.ensures.1, low-memory c.args.frame.now c.in-Ok.fields.credential c.in-Ok.fields.request c.in-Ok.ensures c.memory_of-k.result c.memory_of-k.ensures)

pub offset_bounds-lengths-k : goal.offset_bounds-lengths-k
offset_bounds-lengths-k c =
    let h = low-memory c.args.frame.now c.in-Ok.fields.credential c.in-Ok.fields.request c.in-Ok.ensures c.memory_of-k.result c.memory_of-k.ensures in
    search rules

pub bounds-lengths-k : goal.bounds-lengths-k
bounds-lengths-k c =
    let h = low-memory c.args.frame.now c.in-Ok.fields.credential c.in-Ok.fields.request c.in-Ok.ensures c.memory_of-k.result c.memory_of-k.ensures in
    let w = c.drop_outlived.ensures.1.five in
    omega (arith, h, w)

pub slice_bounds-table-end : goal.slice_bounds-table-end
slice_bounds-table-end c =
    let a = c.args in
    let fit : PartsFit a.keys.now a.tables.now a.lengths.now a.entries.now a.times.now = record {
      keys = search rules;
      tables = search rules;
      lengths = search rules;
      entries = search rules;
      times = search rules;
    } in
    let h = in_four (parsed-of c.args.frame.now c.in-Ok.fields.credential c.in-Ok.fields.request c.in-Ok.ensures) in
    let w = fit.tables in
    omega (arith, h, w)

pub admit-requires : goal.admit-requires
admit-requires c =
    let a = c.args in
    let fit : PartsFit a.keys.now a.tables.now a.lengths.now a.entries.now a.times.now = record {
      keys = search rules;
      tables = search rules;
      lengths = search rules;
      entries = search rules;
      times = search rules;
    } in
    let l = c.drop_outlived.new in
    let o : Opened =
    opened (record_of a.size a.highwater.now a.keys.now a.tables.now a.lengths.now a.entries.now a.times.now) a.medium.now fit
    c.passes_row1.result c.passes_row1.ensures c.if-not-passes_row1.false a.clock c.max-mark.result l.lengths l.entries l.times
    c.max-mark.ensures c.drop_outlived.ensures a.frame.now c.in-Ok.fields.credential c.in-Ok.fields.request c.in-Ok.ensures
    c.memory_of-k.result c.memory_of-k.ensures c.entry_of-nonce.result c.entry_of-nonce.ensures
    c.is_replayed-replayed.result c.is_replayed-replayed.ensures in
    (mem o, ready o)

pub returns-in_err-given : goal.returns-in_err-given
returns-in_err-given c =
    let a = c.args in
    let fit : PartsFit a.keys.now a.tables.now a.lengths.now a.entries.now a.times.now = record {
      keys = search rules;
      tables = search rules;
      lengths = search rules;
      entries = search rules;
      times = search rules;
    } in
    let l = c.drop_outlived.new in
    let o : Opened =
    opened (record_of a.size a.highwater.now a.keys.now a.tables.now a.lengths.now a.entries.now a.times.now) a.medium.now fit
    c.passes_row1.result c.passes_row1.ensures c.if-not-passes_row1.false a.clock c.max-mark.result l.lengths l.entries l.times
    c.max-mark.ensures c.drop_outlived.ensures a.frame.now c.in-Ok.fields.credential c.in-Ok.fields.request c.in-Ok.ensures
    c.memory_of-k.result c.memory_of-k.ensures c.entry_of-nonce.result c.entry_of-nonce.ensures
    c.is_replayed-replayed.result c.is_replayed-replayed.ensures in
    let e = c.in_err-given.field-0.0 in
    let h = handed_on _ e c.from_residual.ensures.1 in
    let was : c.admit.result ≡ Err e = search rules in
    met_refused o (rw was at (c.admit.ensures (mem o) (ready o))) (row_not_zero e) _ (ap answer_row h) (ap answer_length h) refl

pub change_keys-requires : goal.change_keys-requires
change_keys-requires c = starts_hold (parsed-of c.args.frame.now c.in-Ok.fields.credential c.in-Ok.fields.request c.in-Ok.ensures)

pub change_table-requires : goal.change_table-requires
change_table-requires c = starts_hold (parsed-of c.args.frame.now c.in-Ok.fields.credential c.in-Ok.fields.request c.in-Ok.ensures)

pub enter-requires : goal.enter-requires
enter-requires c =
    let a = c.args in
    let fit : PartsFit a.keys.now a.tables.now a.lengths.now a.entries.now a.times.now = record {
      keys = search rules;
      tables = search rules;
      lengths = search rules;
      entries = search rules;
      times = search rules;
    } in
    let l = c.drop_outlived.new in
    let o : Opened =
    opened (record_of a.size a.highwater.now a.keys.now a.tables.now a.lengths.now a.entries.now a.times.now) a.medium.now fit
    c.passes_row1.result c.passes_row1.ensures c.if-not-passes_row1.false a.clock c.max-mark.result l.lengths l.entries l.times
    c.max-mark.ensures c.drop_outlived.ensures a.frame.now c.in-Ok.fields.credential c.in-Ok.fields.request c.in-Ok.ensures
    c.memory_of-k.result c.memory_of-k.ensures c.entry_of-nonce.result c.entry_of-nonce.ensures
    c.is_replayed-replayed.result c.is_replayed-replayed.ensures in
    let was : c.admit.result ≡ Ok c.in_ok-given.given = search rules in (
      c.drop_outlived.ensures.1,
      low-memory a.frame.now c.in-Ok.fields.credential c.in-Ok.fields.request c.in-Ok.ensures c.memory_of-k.result c.memory_of-k.ensures,
      has_room o (rw was at (c.admit.ensures (mem o) (ready o))) refl,
    )

pub returns : goal.returns
returns c =
    let a = c.args in
    let fit : PartsFit a.keys.now a.tables.now a.lengths.now a.entries.now a.times.now = record {
      keys = search rules;
      tables = search rules;
      lengths = search rules;
      entries = search rules;
      times = search rules;
    } in
    let l = c.drop_outlived.new in
    let o : Opened =
    opened (record_of a.size a.highwater.now a.keys.now a.tables.now a.lengths.now a.entries.now a.times.now) a.medium.now fit
    c.passes_row1.result c.passes_row1.ensures c.if-not-passes_row1.false a.clock c.max-mark.result l.lengths l.entries l.times
    c.max-mark.ensures c.drop_outlived.ensures a.frame.now c.in-Ok.fields.credential c.in-Ok.fields.request c.in-Ok.ensures
    c.memory_of-k.result c.memory_of-k.ensures c.entry_of-nonce.result c.entry_of-nonce.ensures
    c.is_replayed-replayed.result c.is_replayed-replayed.ensures in
    let n = c.enter.new in
    let was : c.admit.result ≡ Ok c.in_ok-given.given = search rules in
    met_granted o (rw was at (c.admit.ensures (mem o) (ready o))) refl c.change_keys.new.keys c.change_table.new.table
    c.change_keys.ensures (c.change_table.ensures.table (long_part o)) c.entry_of-nonce.result c.entry_of-nonce.ensures
    n.lengths n.entries n.times c.enter.ensures _ refl
