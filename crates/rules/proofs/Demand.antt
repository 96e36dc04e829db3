-- Demand 3, of every list of calls after a format: by the invariant of Step.antt, which a format begins and each call keeps.
use mathlib.Core.Path.{◌∙◌, ◌≡◌, ap, refl, subst, subst₂, sym}
use mathlib.Core.Logic.{◌⊎◌, inl, inr}
use mathlib.Core.Bool.{Bool, cond, false, false≢true, true, true≢false}
use mathlib.Core.Option.{none, Option, get_or, map, some}
use mathlib.Core.List.Memᴰ
use mathlib.Core.List.{[], ◌++◌, ◌∷◌, List, Memᴰ}
use Prim.Native.Nat.{◌*◌, ◌+◌, ◌<◌, ◌≤◌, ℕ}
use native.Mathlib.Decide.{dec_lt, ℕ_discrete}
use native.Mathlib.Omega.{arith}
use lib.ListN.{length, length-map, length-replicate, replicate}
use borrow.Author.Tests.{eq-eqb, eqb-true, ltb-false}
use Rattle.lemmas.specs.ListLaws.{every_nth}
use Rattle.lemmas.specs.Lists.{every, find, missing, part}
use Rattle.lemmas.specs.RowTable.{applies, first_row, none_applies}
use Rattle.lemmas.specs.Tests.{◌is◌, bool_cases, both}
use Rattle.rules.specs.declared.Credential.{Credential}
use Rattle.rules.specs.declared.Entry.{Entry}
use Rattle.rules.specs.declared.Object.{Object}
use Rattle.rules.specs.Demands.{
  after,
  Agrees,
  AllOfDemand3,
  call_fields,
  Demand3,
  fed,
  extent_from,
  Has,
  Nonce,
  nonce,
  State,
  step,
  extent_to,
}
use Rattle.rules.specs.Drive.{format, format_rows, Formatted, new_drive, new_tables, Partition, partition_at, quarter, sound_partition, Tables, empty_partition}
use Rattle.rules.specs.Frame.{Fields}
use Rattle.rules.specs.Gate.{Call}
use Rattle.rules.specs.Ledger.{
  bare,
  bare_scope,
  bytes_in,
  clocked,
  feed,
  LedgerObject,
  Ledger,
  ledger,
  ledger_group,
  ledger_scope,
  ledger_start,
  number_of,
  tables_of,
}
use Rattle.rules.specs.Operations.{extent_bytes, extent_start, named_object, no_object, object_of, present_version}
use Rattle.rules.specs.Rows.{bounds, group_bytes, need_of, row10, row13, row14, row15, row17, row34, row7, row8, row9}
use Rattle.rules.specs.Scope.{Scope}
use Rattle.rules.proofs.Bare.{missing_is, sees, the_bytes, the_ledger_object, the_object}
use Rattle.rules.proofs.Clear.{bound}
use Rattle.rules.proofs.Holds.{Consistent, quarter_below}
use Rattle.rules.proofs.Known.{granted_known, Known, known_not_granted, step_known}
use Rattle.rules.proofs.Shown.{read-shown}
use Rattle.rules.proofs.Sound.{
  at_sound,
  below_four,
  Disjoint,
  member-sound,
  members-disjoint,
  partition_is,
  SoundObject,
  SoundPartition,
  SoundTables,
  unused_sound,
}
use Rattle.rules.proofs.Step.{clear_of_lem, entries, fed_of, fresh_inv, Invariant, inv_sound, row_zero, row_of, sees_is, step_inv}

-- ---- format
empty : {A : Type 0} → List A → Bool
empty [] = true
empty (x ∷ xs) = false

not_empty : {A : Type 0} (l : List A) (a : A) → empty l ≡ true → Memᴰ a l → ⊥
unfolding empty
not_empty [] a e k = Memᴰ.not-nil k
not_empty (x ∷ xs) a e k = false≢true e

module _ (medium : List ℕ) (F : ℕ) (master drive : List ℕ) where
  row : ℕ
  row = first_row (format_rows medium F master drive)

  made : Formatted
  made = record {
    row = 0;
    drive = new_drive (length medium) (new_tables F (some master) (some drive));
    medium =
        replicate (length medium) 0;
  }

  formatted : (format medium F master drive).row ≡ 0 → row ≡ 0
  unfolding format row made
  formatted e = go (row is 0) refl e
    where
      go : (b : Bool) → (row is 0) ≡ b
          → (cond b made (record { row = row; drive = new_drive 0 (new_tables 0 none none); medium = medium })).row ≡ 0
          → row ≡ 0
      go true k h = eqb-true row 0 k
      go false k h = h

  format-made : row ≡ 0 → format medium F master drive ≡ made
  unfolding format row made
  format-made e = rw (eq-eqb row 0 e) refl

  small : row ≡ 0 → length medium ≤ 16777216
  unfolding row format_rows applies every
  small e = ltb-false 16777216 (length medium) (none_applies (format_rows medium F master drive) refl e 24)

  start_inv : row ≡ 0 → Invariant (length medium) (record { drive = made.drive; medium = made.medium })
      (ledger_start F master drive)
  unfolding made ledger_start tables_of every empty
  start_inv e = record {
    small = small e;
    size = refl;
    tables = refl;
    consistent = record {
      size = length-replicate (length medium) 0;
      four = refl;
      sound = both u (both u (both u (both u refl)));
      bytes = λ p h k. absurd (not_empty (partition_at (ledger_start F master drive) p).objects h
          (every_nth (λ (r : Partition LedgerObject). empty r.objects) (ledger_start F master drive).partitions p
          (empty_partition 0) refl refl) k);
    };
    five = refl;
    short = refl;
  }
    where
      u : sound_partition (quarter (length medium)) (empty_partition F) ≡ true
      u = unused_sound (quarter (length medium)) F

-- ---- lists of calls
run_inv : {M : ℕ} {s : State} {l : Ledger} → Invariant M s l → (cs : List Call)
    → Invariant M (after s cs) (ledger M l (fed s cs))
unfolding after ledger fed
run_inv v [] = v
run_inv {M = M} {s = s} {l = l} v (c ∷ cs) = run_inv {M = M} {s = step s c} {l = feed M l (fed_of s c)} (step_inv v c) cs

run_known : {M : ℕ} {s : State} {l : Ledger} → Invariant M s l → (cs : List Call) (n : Nonce) → Known n s.drive
    → Known n (after s cs).drive
unfolding after
run_known v [] n k = k
run_known {M = M} {s = s} {l = l} v (c ∷ cs) n k =
    run_known {M = M} {s = step s c} {l = feed M l (fed_of s c)} (step_inv v c) cs n (step_known v c n k)

after_append : (s : State) (a : List Call) (c : Call) (b : List Call)
    → after s (a ++ (c ∷ b)) ≡ after (step (after s a) c) b
unfolding after
after_append s [] c b = refl
after_append s (x ∷ xs) c b = after_append (step s x) xs c b

-- ---- what demand 3 says of extents
bare-count : (l : Ledger) → length (tables_of l).partitions ≡ length l.partitions
unfolding tables_of
bare-count l = length-map l.partitions bare

pub agree : {M : ℕ} {s : State} {l : Ledger} → Invariant M s l → Agrees M s l
agree {M} {s} {l} v = record {
  size = v.size;
  medium = v.consistent.size;
  tables = v.tables;
  bytes = v.consistent.bytes;
  inside = λ p a k. (four p a k, (omega arith, omega (arith, (object p a k).inside)));
  disjoint = λ p r a b j k ne. meet p r a b j k ne (ℕ_discrete p r);
  sound = inv_sound v;
}
  where
    t : Tables Object
    t = s.drive.tables

    at : (p : ℕ) → SoundPartition (quarter M) (partition_at t p)
    at p = partition_is (quarter M) (partition_at t p)
        (at_sound (quarter M) t p (subst (SoundTables (quarter M)) (sym v.tables) v.consistent.sound))

    object : (p : ℕ) (a : Object) → Has s p a → SoundObject (quarter M) (partition_at t p).last a
    object p a k = member-sound (at p) k

    four : (p : ℕ) (a : Object) → Has s p a → p < 4
    four p a k = below_four t p a (ap (λ (u : Tables Object). length u.partitions) v.tables ∙ bare-count l ∙ v.consistent.four) k

    one : (p : ℕ) (a b : Object) → Disjoint a b
        → (extent_to M p a ≤ extent_from M p b) ⊎ (extent_to M p b ≤ extent_from M p a)
    one p a b (inl e) = inl (omega arith)
    one p a b (inr e) = inr (omega arith)

    meet : (p r : ℕ) (a b : Object) → Has s p a → Has s r b → (p ≡ r → a.number ≡ b.number → ⊥) → Dec (p ≡ r)
        → (extent_to M p a ≤ extent_from M r b) ⊎ (extent_to M r b ≤ extent_from M p a)
    meet p r a b j k ne (yes e) =
        subst (λ (n : ℕ). (extent_to M p a ≤ extent_from M n b) ⊎ (extent_to M n b ≤ extent_from M p a)) e
        (one p a b (members-disjoint (at p) j (subst (λ (n : ℕ). Has s n b) (sym e) k) (ne e)))
    meet p r a b j k ne (no e) = go (dec_lt p r)
      where
        go : Dec (p < r) → (extent_to M p a ≤ extent_from M r b) ⊎ (extent_to M r b ≤ extent_from M p a)
        go (yes h) = inl (omega (arith, quarter_below (quarter M) p r h, (object p a j).inside))
        go (no h) =
            let h' : r < p = omega arith in
            inr (omega (arith, quarter_below (quarter M) r p h', (object r b k).inside))

-- ---- the rows that the ledger judges
-- the bytes of object n, by the medium and by the ledger; none where it is not there
same_bytes : {M : ℕ} {m : List ℕ} {l : Ledger} → Consistent M m l → (es : List Entry) (c : Credential) (n : ℕ)
    → extent_bytes (sees M l es c) c n m ≡ bytes_in (partition_at l c.partition) n
unfolding extent_bytes extent_start object_of named_object missing part
same_bytes {M} {m} {l} g es c n = go (bool_cases (missing (find Object.number n (bare here).objects)))
  where
    here : Partition LedgerObject
    here = partition_at l c.partition

    bytes : Object → List ℕ
    bytes a = part m (c.partition * quarter M + a.start) a.size

    not_there : (o : Option Object) (k : Option LedgerObject) → missing o ≡ true → missing k ≡ true
        → bytes (get_or o no_object) ≡ get_or (map LedgerObject.bytes k) []
    not_there none none e f = refl
    not_there (some a) k e f = absurd (true≢false (sym e))
    not_there none (some h) e f = absurd (true≢false (sym f))

    go : (missing (find Object.number n (bare here).objects) ≡ true)
        ⊎ (missing (find Object.number n (bare here).objects) ≡ false)
        → bytes (get_or (find Object.number n (bare here).objects) no_object) ≡ bytes_in here n
    go (inl e) = not_there (find Object.number n (bare here).objects) (find number_of n here.objects) e
        (missing_is here n ∙ e)
    go (inr e) =
        ap bytes (the_object here n e)
        ∙ g.bytes c.partition (the_ledger_object here n e).0 (the_ledger_object here n e).2
        ∙ sym (the_bytes here n e)

-- (they do not look at the replay memory)
bounds_kept : {M : ℕ} {s : State} {l : Ledger} → Invariant M s l → (c : Call) → row_of s c ≡ 0
    → let t = ledger_scope M (clocked c.clock l) (call_fields c).cred in
    first_row (bounds (bare_scope t) (ledger_group t (call_fields c).cred) (call_fields c)) ≡ 0
unfolding bounds need_of row7 row8 row9 row10 row13 row14 row15 row17 row34 named_object object_of present_version
bounds_kept {M} {s} {l} v c g =
    let x : Fields = call_fields c in
    let now : Ledger = clocked c.clock l in
    subst (λ (b : List ℕ). first_row (bounds (bare_scope (ledger_scope M now x.cred)) b x) ≡ 0)
    (same_bytes (fresh_inv v c).consistent (entries v c) x.cred x.cred.object)
    (subst (λ (t : Scope Object). first_row (bounds t (group_bytes t x.cred s.medium) x) ≡ 0) (sees_is v c)
    (bound (clear_of_lem v c g)))

-- ---- demand 3, from any state and ledger of which the invariant holds
demand : {M : ℕ} {s : State} {l : Ledger} → Invariant M s l → (calls : List Call) → Demand3 M s l calls
demand {M} {s} {l} v calls = record {
  no_repeat = λ before between later c d e gc gd same.
      let u = run_inv v before in
      let k : Known (nonce c) (after (step (after s before) c) between).drive =
      run_known (step_inv u c) between (nonce c) (granted_known u c gc) in
      known_not_granted (run_inv v (before ++ (c ∷ between))) d
      (subst₂ (λ (n : Nonce) (w : State). Known n w.drive) same (sym (after_append s before c between)) k) gd;
  kept = λ before later c e g.
      let u = run_inv v before in
      bounds_kept u c (row_zero u c g);
  shown = λ before later c A B e g o. read-shown (run_inv v before) c g A B o;
  agrees = λ before later e. agree (run_inv v before);
}

-- the state that a format leaves
abbrev pub start_state : List ℕ → ℕ → List ℕ → List ℕ → State
start_state medium F master drive =
    let f = format medium F master drive in
    record { drive = f.drive; medium = f.medium }

pub format_inv : (medium : List ℕ) (F : ℕ) (master drive : List ℕ) → (format medium F master drive).row ≡ 0
    → Invariant (length medium) (start_state medium F master drive) (ledger_start F master drive)
format_inv medium F master drive e =
    let r : row medium F master drive ≡ 0 = formatted medium F master drive e in
    subst (λ (f : Formatted). Invariant (length medium) (record { drive = f.drive; medium = f.medium })
    (ledger_start F master drive))
    (sym (format-made medium F master drive r)) (start_inv medium F master drive r)

pub demand3 : AllOfDemand3
demand3 medium F master drive calls e =
    demand (format_inv medium F master drive e) calls
