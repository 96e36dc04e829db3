-- One call: the gate's two answers, and the invariant of drive, medium and ledger that every call keeps (`step_inv`).
use mathlib.Core.Path.{◌∙◌, ◌≡◌, ap, refl, subst, subst₂, sym}
use mathlib.Core.Bool.{false, true}
use mathlib.Core.List.{List}
use Prim.Native.Nat.{◌≤◌, ℕ}
use native.Mathlib.Decide.{ℕ_discrete}
use native.Mathlib.Omega.{arith}
use lib.ListN.{length, length-map}
use borrow.Author.Tests.{eq-eqb, le-leb, ne_eqb}
use Rattle.lemmas.specs.ListLaws.{length-update}
use Rattle.lemmas.specs.Lists.{every, keep}
use Rattle.lemmas.specs.RowTable.{first_row}
use Rattle.lemmas.specs.Tests.{both}
use Rattle.rules.specs.declared.Entry.{Entry}
use Rattle.rules.specs.declared.Object.{Object}
use Rattle.rules.specs.Demands.{answer, call_operation, State, step}
use Rattle.rules.specs.Drive.{
  Drive,
  lives,
  new_high_water,
  quarter,
  refresh,
  sound,
  sound_partition,
  Tables,
  with_high_water,
}
use Rattle.rules.specs.Frame.{Fields, fields, memory_index}
use Rattle.rules.specs.Gate.{Answer, Call, granted, refused, whole_answer}
use Rattle.rules.specs.Ledger.{clocked, Fed, feed, Ledger, ledger_perform, ledger_scope, tables_of}
use Rattle.rules.specs.Operations.{perform, remember}
use Rattle.rules.specs.Rows.{row1, rows}
use Rattle.rules.specs.Scope.{with_scope, drive_with_scope, Scope, drive_scope, tables_scope, with_partition}
use Rattle.rules.proofs.Answers.{gate-granted, gate-refused, gate-row, ready_left}
use Rattle.rules.proofs.Bare.{bare_after, bare_at, bare_back, sees}
use Rattle.rules.proofs.Clear.{Clear, clear22, cleared, grant}
use Rattle.rules.proofs.Holds.{Consistent, consistent_after, Grant}
use Rattle.rules.proofs.Keeps.{tables_of_lem}
use Rattle.rules.proofs.Memories.{short, short_entered, short_kept}
use Rattle.rules.proofs.Sound.{at_sound}

-- ---- what holds before and after every call
pub record Invariant (M : ℕ) (s : State) (l : Ledger) : Type 0 where
  pub small : M ≤ 16777216
  pub size : s.drive.size ≡ M
  pub tables : s.drive.tables ≡ tables_of l
  pub consistent : Consistent M s.medium l
  pub five : length s.drive.memories ≡ 5
  pub short : every short s.drive.memories ≡ true

pub inv_sound : {M : ℕ} {s : State} {l : Ledger} → Invariant M s l → sound s.drive ≡ true
unfolding sound
inv_sound {M} {s} {l} v =
    both (both (le-leb s.drive.size 16777216 (omega (arith, v.size, v.small)))
    (subst₂ (λ (n : ℕ) (t : Tables Object). every (sound_partition (quarter n)) t.partitions ≡ true) (sym v.size)
    (sym v.tables) v.consistent.sound))
    v.short

-- ---- the call's parts
-- the drive with the new mark and no outlived entry
abbrev pub fresh : State → Call → Drive
fresh s c = refresh c.clock s.drive

abbrev pub fresh_state : State → Call → State
fresh_state s c = record { drive = fresh s c; medium = s.medium }

abbrev pub row_of : State → Call → ℕ
row_of s c = first_row (rows s.drive s.medium c.frame c.clock c.space)

abbrev pub fed_of : State → Call → Fed
fed_of s c = record { frame = c.frame; clock = c.clock; row = (answer s c).row }

-- ---- the new mark
refreshed : {M : ℕ} {s : State} {l : Ledger} → Invariant M s l → (c : Call)
    → Invariant M (fresh_state s c) (clocked c.clock l)
unfolding refresh clocked tables_of
refreshed {M} {s} {l} v c = record {
  small = v.small;
  size = v.size;
  tables = ap (λ (t : Tables Object). with_high_water (new_high_water t.high_water c.clock) t) v.tables;
  consistent = record { size = v.consistent.size; four = v.consistent.four; sound = v.consistent.sound; bytes = v.consistent.bytes };
  five =
      length-map s.drive.memories (keep (lives (new_high_water s.drive.tables.high_water c.clock)))
      ∙ v.five;
  short = short_kept (new_high_water s.drive.tables.high_water c.clock) s.drive.memories v.short;
}

-- what a frame sees of the drive is what it sees of the ledger, beside the memory
scope_is : {M : ℕ} {s : State} {l : Ledger} → Invariant M s l → (x : Fields)
    → drive_scope s.drive x.cred ≡ sees M l (drive_scope s.drive x.cred).memory x.cred
unfolding tables_of
scope_is {M} {s} {l} v x =
    let es : List Entry = (drive_scope s.drive x.cred).memory in
    (λ i. tables_scope (quarter (v.size i)) (v.tables i) es x.cred)
    ∙ (λ i. with_partition (bare_at l x.cred.partition i) (sees M l es x.cred))

-- ---- one call
module _ {M : ℕ} {s : State} {l : Ledger} (v : Invariant M s l) (c : Call) where
  ready : row1 s.drive s.medium ≡ false
  unfolding row1
  ready = rw (inv_sound v, eq-eqb (length s.medium) s.drive.size (v.consistent.size ∙ sym v.size)) refl

  pub answer-granted : row_of s c ≡ 0 → answer s c ≡ whole_answer (fields c.frame).cred (fresh s c)
      (granted (drive_scope (fresh s c) (fields c.frame).cred) s.medium (fields c.frame) c.space)
  unfolding answer
  answer-granted e = gate-granted s.drive s.medium c e

  answer-refused : (row_of s c ≡ 0 → ⊥) → answer s c ≡ refused (row_of s c) (fresh s c) s.medium c.space
  unfolding answer
  answer-refused e =
      gate-refused s.drive s.medium c e
      ∙ ap (λ (d : Drive). refused (row_of s c) d s.medium c.space) (ready_left s.drive s.medium c ready)

  pub row_zero : (answer s c).row ≡ 0 → row_of s c ≡ 0
  unfolding answer
  row_zero e = sym (gate-row s.drive s.medium c) ∙ e

  pub fresh_inv : Invariant M (fresh_state s c) (clocked c.clock l)
  fresh_inv = refreshed v c

  -- ---- a grant
  abbrev x : Fields
  x = fields c.frame

  abbrev now : Ledger
  now = clocked c.clock l

  -- the frame sees the same of drive and ledger, but for the memory
  abbrev pub entries : List Entry
  entries = (drive_scope (fresh s c) x.cred).memory

  pub sees_is : drive_scope (fresh s c) x.cred ≡ sees M now entries x.cred
  sees_is = scope_is fresh_inv x

  pub clear_of_lem : row_of s c ≡ 0 → Clear c.frame (drive_scope (fresh s c) x.cred) s.medium c.space
  clear_of_lem g = cleared s.drive s.medium c.frame c.clock c.space g

  pub the_grant : row_of s c ≡ 0 → Grant (call_operation c) (sees M now entries x.cred) x
  the_grant g =
      let k : sound (fresh s c) ≡ true = inv_sound fresh_inv in
      subst (λ (t : Scope Object). Grant (call_operation c) t x) sees_is
      (grant (clear_of_lem g) (at_sound (quarter (fresh s c).size) (fresh s c).tables x.cred.partition
      (tables_of_lem (fresh s c) k)))

  -- the state and the ledger that it leaves
  abbrev granted-state : State
  granted-state =
      let a = granted (drive_scope (fresh s c) x.cred) s.medium x c.space in
      record { drive = drive_with_scope x.cred a.drive (fresh s c); medium = a.medium }

  abbrev granted-ledger : Ledger
  granted-ledger = with_scope x.cred (ledger_perform (call_operation c) (ledger_scope M now x.cred) x) now

  granted_inv : row_of s c ≡ 0 → Invariant M granted-state granted-ledger
  unfolding granted
  granted_inv g = record {
    small = w.small;
    size = w.size;
    tables =
        (λ i. with_scope x.cred (perform (call_operation c) (sees_is i) x s.medium).scope (w.tables i))
        ∙ ap (λ (t : Scope Object). with_scope x.cred t (tables_of now))
        (bare_after (call_operation c) (ledger_scope M now x.cred) entries x s.medium)
        ∙ sym (bare_back x (ledger_perform (call_operation c) (ledger_scope M now x.cred) x) now);
    consistent = subst (λ (t : Scope Object). Consistent M (perform (call_operation c) t x s.medium).medium granted-ledger) (sym sees_is)
        (consistent_after w.consistent (call_operation c) entries x (the_grant g));
    five = length-update (memory_index x.cred) (λ (old : List Entry). remember x entries) (fresh s c).memories ∙ w.five;
    short = short_entered (fresh s c) x (clear22 (clear_of_lem g)) w.short;
  }
    where
      w : Invariant M (fresh_state s c) now
      w = fresh_inv

  pub step_granted : row_of s c ≡ 0 → step s c ≡ granted-state
  unfolding step granted
  step_granted e = ap (λ (a : Answer Drive). record { drive = a.drive; medium = a.medium }) (answer-granted e)

  pub step_refused : (row_of s c ≡ 0 → ⊥) → step s c ≡ fresh_state s c
  unfolding step
  step_refused e = ap (λ (a : Answer Drive). record { drive = a.drive; medium = a.medium }) (answer-refused e)

  feed-granted : row_of s c ≡ 0 → feed M l (fed_of s c) ≡ granted-ledger
  unfolding feed granted
  feed-granted e = rw (eq-eqb (answer s c).row 0 (ap Answer.row (answer-granted e))) refl

  feed-refused : (row_of s c ≡ 0 → ⊥) → feed M l (fed_of s c) ≡ clocked c.clock l
  unfolding feed
  feed-refused e = rw (ne_eqb (answer s c).row 0 (λ k. e (row_zero k))) refl

  pub step_inv : Invariant M (step s c) (feed M l (fed_of s c))
  step_inv = go (ℕ_discrete (row_of s c) 0)
    where
      go : Dec (row_of s c ≡ 0) → Invariant M (step s c) (feed M l (fed_of s c))
      go (yes e) = subst₂ (Invariant M) (sym (step_granted e)) (sym (feed-granted e)) (granted_inv e)
      go (no e) = subst₂ (Invariant M) (sym (step_refused e)) (sym (feed-refused e)) fresh_inv
