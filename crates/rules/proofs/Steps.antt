-- Document 02, change 3, of calls: soundness asks for no step (`any-start`), row 20 is exact (`row20-exact`), a create takes
-- the place that the rule names (`places`), and every object of a list of calls from a format is on a step (`on_steps`).
use mathlib.Core.Path.{◌∙◌, ◌≡◌, ap, refl, subst, sym}
use mathlib.Core.Logic.{◌⊎◌, inl, inr, ◌↔◌}
use mathlib.Core.Bool.{◌&&◌, Bool, cond, false, true, true≢false}
use mathlib.Core.Option
use mathlib.Core.Option.{none, Option, some}
use mathlib.Core.List.Memᴰ
use mathlib.Core.List.{[], ◌++◌, ◌∷◌, List, Memᴰ}
use Prim.Native.Nat.{◌+◌, ◌≤◌, ℕ, suc, zero}
use native.Mathlib.Decide.{ℕ_discrete}
use native.Mathlib.Omega.{arith}
use lib.Dec.{leb}
use lib.ListN.{get_or, length, replicate}
use borrow.Author.Tests.{eq-eqb, eqb-true, le-leb, ne_eqb}
use Rattle.lemmas.specs.ListLaws.{every_of, member-change, member-keep}
use Rattle.lemmas.specs.Lists.{change, missing, some?}
use Rattle.lemmas.specs.RowTable.{answer-applies, first_row, line, Row, row_here}
use Rattle.lemmas.specs.Tests.{◌is◌, ◌isnt◌, and_l, and_r, bool_cases, both, by_branches, or_intro_l, or_intro_r, or_only}
use Rattle.rules.specs.declared.Object.{Object}
use Rattle.rules.specs.declared.Operation.{Operation}
use Rattle.rules.specs.declared.Operation.TheVariants.{Create, Delete, LoadTable, Look, Raise, Read, SetKey, Write}
use Rattle.rules.specs.BestFit.{best_fit, Chosen, extent_step, Multiple, NoGap}
use Rattle.rules.specs.Demands.{after, answer, call_operation, Has, State, step}
use Rattle.rules.specs.Drive.{Drive, empty_partition, format, format_rows, Formatted, Partition, partition_at, quarter, refresh, sound}
use Rattle.rules.specs.Frame.{Fields, fields, operation, operations}
use Rattle.rules.specs.Gate.{Answer, Call, gate, granted}
use Rattle.rules.specs.Operations.{created, deleted, next_version, perform, placement, placement_start, raised, with_version}
use Rattle.rules.specs.Rows.{drive_rows, frame_rows, row1, row20, rows, scope_rows}
use Rattle.rules.specs.Scope.{drive_scope, Scope}
use Rattle.rules.specs.Steps.{AllPlaces, AnyStart, NewExtent, OnStep, OnSteps, partition_for, Row20Exact, StartsKept}
use Rattle.rules.proofs.Answers.{gate-granted, gate-refused, gate-row}
use Rattle.rules.proofs.Clear.{Clear, cleared, in_four, is_sound, place_found, ready_sound}
use Rattle.rules.proofs.Keeps.{tables_of_lem}
use Rattle.rules.proofs.Placing.{clear_of, fit_chosen, fit_multiple, none_fits}
use Rattle.rules.proofs.Sound.{at_sound, created-sound, member-sound, partition_is, with_scope_has, with_scope_here}

-- ---- row 1
pub any-start : AnyStart
any-start q number size start p h room hn hs inside away =
    created-sound q number size start p h hn hs
    (every_of (λ (a : Object). a.number isnt number) p.objects (λ a k. rw (ne_eqb a.number number (away a k).0) refl))
    room
    (record { inside = inside; clear = every_of (clear_of start size) p.objects (λ a k. go a (away a k).1) })
  where
    go : (a : Object) → (a.start + a.size ≤ start) ⊎ (start + size ≤ a.start) → clear_of start size a ≡ true
    go a (inl e) = or_intro_l (leb (a.start + a.size) start) (leb (start + size) a.start) (le-leb (a.start + a.size) start e)
    go a (inr e) = or_intro_r (leb (a.start + a.size) start) (leb (start + size) a.start) (le-leb (start + size) a.start e)

-- ---- row 20
-- the areas of a sound drive are not empty
sized : (d : Drive) → sound d ≡ true → (p : ℕ) (a : Object) → Memᴰ a (partition_at d.tables p).objects → 1 ≤ a.size
sized d h p a k =
    let q : ℕ = quarter d.size in
    (member-sound (partition_is q (partition_at d.tables p) (at_sound q d.tables p (tables_of_lem d h))) k).size

module _ (d : Drive) (h : sound d ≡ true) (p B : ℕ) where
  abbrev there : List Object
  there = (partition_at d.tables p).objects

  -- what the computation finds among its areas is what the document names
  nowhere : (missing (best_fit extent_step (quarter d.size) there B) ≡ true) ↔ NoGap extent_step (quarter d.size) there B
  nowhere = none_fits extent_step (omega arith) (quarter d.size) there (sized d h p) B

  somewhere : missing (best_fit extent_step (quarter d.size) there B) ≡ false
      → Chosen extent_step (quarter d.size) there B (Option.get_or (best_fit extent_step (quarter d.size) there B) 0)
  unfolding missing
  somewhere e = fit_chosen extent_step (omega arith) (quarter d.size) there (sized d h p) B _
      (go (best_fit extent_step (quarter d.size) there B) e)
    where
      go : (o : Option ℕ) → missing o ≡ false → o ≡ some (Option.get_or o 0)
      go none k = absurd (true≢false k)
      go (some n) k = refl

pub row20-exact : Row20Exact
unfolding row20 placement
row20-exact d c r h = (there_is, back)
  where
    test : Bool
    test = missing (best_fit extent_step (quarter d.size) (partition_at d.tables c.partition).objects r.B)

    there_is : (r.operation is 5 && test) ≡ true
        → (r.operation ≡ 5) × NoGap extent_step (quarter d.size) (partition_at d.tables c.partition).objects r.B
    there_is e = (
      eqb-true r.operation 5 (and_l (r.operation is 5) test e),
      (nowhere d h c.partition r.B).0 (and_r (r.operation is 5) test e),
    )

    back : (r.operation ≡ 5) × NoGap extent_step (quarter d.size) (partition_at d.tables c.partition).objects r.B
        → (r.operation is 5 && test) ≡ true
    back k = both (eq-eqb r.operation 5 k.0) ((nowhere d h c.partition r.B).1 k.1)

-- ---- one call
module _ (d : Drive) (m : List ℕ) (c : Call) where
  abbrev table : List Row
  table = rows d m c.frame c.clock c.space

  abbrev x : Fields
  x = fields c.frame

  abbrev fresh : Drive
  fresh = refresh c.clock d

  -- where row 20 is the answer, its test passes, and row 1's does not
  given_20 : first_row table ≡ 20 → row20 (drive_scope fresh x.cred) x.req ≡ true
  unfolding rows frame_rows drive_rows scope_rows some?
  given_20 h = or_only (row20 (drive_scope fresh x.cred) x.req) (answer-applies 20 table refl h)

  sound_20 : first_row table ≡ 20 → row1 d m ≡ false
  unfolding rows
  sound_20 h = go (bool_cases (row1 d m))
    where
      go : (row1 d m ≡ true) ⊎ (row1 d m ≡ false) → row1 d m ≡ false
      go (inl e) =
          let k : ◌≡◌ {A = ℕ} 1 20 =
          sym (row_here (line 1 (row1 d m)) (frame_rows c.frame x ++ drive_rows (drive_scope fresh x.cred) m x c.space) e) ∙ h in
          absurd (let z : ⊥ = omega arith in z)
      go (inr e) = e

  -- the scope of the frame has the partition and the quarter of d: a new mark changes neither
  refused : first_row table ≡ 20 → (number : ℕ) × (size : ℕ) × (call_operation c ≡ Create number size)
      × NoGap extent_step (quarter d.size) (partition_for d c).objects size
  unfolding refresh row20 placement operation
  refused h =
      let e : (x.req.operation is 5 && missing (best_fit extent_step (quarter d.size) (partition_for d c).objects x.req.B))
      ≡ true = given_20 h in
      let five : x.req.operation ≡ 5 = eqb-true x.req.operation 5 (and_l (x.req.operation is 5) _ e) in (
        x.req.A,
        x.req.B,
        ap (λ (k : ℕ). get_or (Look ∷ operations x.req) k Look) five,
        (nowhere d (ready_sound d m (sound_20 h)) x.cred.partition x.req.B).0 (and_r (x.req.operation is 5) _ e),
      )

  new-extent : length d.tables.partitions ≡ 4 → (number size : ℕ) → first_row table ≡ 0 → call_operation c ≡ Create number size
      → NewExtent d (gate d m c).drive c number size
  unfolding refresh placement placement_start perform created granted
  new-extent four number size g o = record {
    start = start;
    chosen = somewhere d (is_sound d m c.frame c.clock c.space g) x.cred.partition size (place_found k number size o);
    joins = joins;
  }
    where
      k : Clear c.frame (drive_scope fresh x.cred) m c.space
      k = cleared d m c.frame c.clock c.space g

      start : ℕ
      start = placement_start (drive_scope fresh x.cred) size

      done : Scope Object
      done = (granted (drive_scope fresh x.cred) m x c.space).drive

      joins : (partition_for (gate d m c).drive c).objects
          ≡ (partition_for d c).objects
          ++ (record { number = number; version = next_version (partition_for d c); size = size; start = start } ∷ [])
      joins =
          ap (λ (a : Answer Drive). (partition_for a.drive c).objects) (gate-granted d m c g)
          ∙ ap Partition.objects (with_scope_here x.cred done fresh.tables (omega (arith, four, in_four k)))
          ∙ ap (λ (w : Operation). (perform w (drive_scope fresh x.cred) x m).scope.partition.objects) o

pub places : AllPlaces
places d m c four = record {
  refused = λ e. refused d m c (sym (gate-row d m c) ∙ e);
  granted = λ number size e. new-extent d m c four number size (sym (gate-row d m c) ∙ e);
}

-- ---- a list of calls
-- an object that is there after something was there before, with the same number and start, or is on a step
abbrev Came : List Object → Object → Type 0
Came l a = OnStep a ⊎ ((b : Object) × Memᴰ b l × (b.number ≡ a.number) × (b.start ≡ a.start))

was : {l : List Object} {a : Object} → Memᴰ a l → Came l a
was {l} {a} k = inr (a, k, refl, refl)

-- of a partition's objects after an operation
after_operation : (o : Operation) (s : Scope Object) (x : Fields) (m : List ℕ) (a : Object)
    → Memᴰ a (perform o s x m).scope.partition.objects → Came s.partition.objects a
unfolding perform raised created deleted placement_start placement
after_operation (Read i n) s x m a k = was k
after_operation (Write i n) s x m a k = was k
after_operation Look s x m a k = was k
after_operation Raise s x m a k = either (x.cred.object is 0) k
  where
    v : ℕ
    v = next_version s.partition

    renewed : (Memᴰ a s.partition.objects × (a.number ≡ x.cred.object → ⊥))
        ⊎ ((b : Object) × Memᴰ b s.partition.objects × (b.number ≡ x.cred.object) × (a ≡ with_version v b))
        → Came s.partition.objects a
    renewed (inl n) = was n.0
    renewed (inr n) = inr (n.0, n.1, sym (ap Object.number n.3), sym (ap Object.start n.3))

    either : (b : Bool) → Memᴰ a (cond b s.partition.objects
        (change Object.number x.cred.object (with_version v) s.partition.objects)) → Came s.partition.objects a
    either true n = was n
    either false n = renewed (member-change Object.number x.cred.object (with_version v) s.partition.objects a n)
after_operation (Create number size) s x m a k = go (Memᴰ.append_cases s.partition.objects k)
  where
    new : Object
    new = record { number = number; version = next_version s.partition; size = size; start = placement_start s size }

    go : Memᴰ a s.partition.objects ⊎ Memᴰ a (new ∷ []) → Came s.partition.objects a
    go (inl n) = was n
    go (inr n) = inl (subst OnStep (sym (Memᴰ.eq_of_singleton n))
        (fit_multiple extent_step s.quarter s.partition.objects size))
after_operation Delete s x m a k =
    was (member-keep (λ (b : Object). b.number isnt x.cred.object) s.partition.objects a k)
after_operation (SetKey i) s x m a k = was k
after_operation LoadTable s x m a k = was k

-- after a call
after_call : (s : State) (c : Call) (p : ℕ) (a : Object) → Has (step s c) p a
    → Came (partition_at s.drive.tables p).objects a
unfolding step answer granted refresh
after_call s c p a k = go (ℕ_discrete (first_row (rows d m c.frame c.clock c.space)) 0)
  where
    d : Drive
    d = s.drive

    m : List ℕ
    m = s.medium

    x : Fields
    x = fields c.frame

    fresh : Drive
    fresh = refresh c.clock d

    leaves : (w : Answer Drive) → answer s c ≡ w → Memᴰ a (partition_at w.drive.tables p).objects
    leaves w h = subst (λ (v : Answer Drive). Memᴰ a (partition_at v.drive.tables p).objects) h k

    kept : (b : Bool) → Memᴰ a (partition_at (cond b d fresh).tables p).objects
        → Came (partition_at d.tables p).objects a
    kept true n = was n
    kept false n = was n

    done : Scope Object
    done = (granted (drive_scope fresh x.cred) m x c.space).drive

    did : ((p ≡ x.cred.partition) × Memᴰ a done.partition.objects) ⊎ Memᴰ a (partition_at fresh.tables p).objects
        → Came (partition_at d.tables p).objects a
    did (inl n) = subst (λ (r : ℕ). Came (partition_at d.tables r).objects a) (sym n.0)
        (after_operation (operation x.req) (drive_scope fresh x.cred) x m a n.1)
    did (inr n) = was n

    go : Dec (first_row (rows d m c.frame c.clock c.space) ≡ 0) → Came (partition_at d.tables p).objects a
    go (yes z) = did (with_scope_has x.cred done fresh.tables p a (leaves _ (gate-granted d m c z)))
    go (no z) = kept (first_row (rows d m c.frame c.clock c.space) is 1) (leaves _ (gate-refused d m c z))

-- after a list of calls
kept_list : (calls : List Call) (s : State) (p : ℕ) (a : Object) → Has (after s calls) p a
    → Came (partition_at s.drive.tables p).objects a
unfolding after
kept_list [] s p a k = was k
kept_list (c ∷ cs) s p a k = go (kept_list cs (step s c) p a k)
  where
    earlier : (b : Object) → (b.number ≡ a.number) → (b.start ≡ a.start) → Came (partition_at s.drive.tables p).objects b
        → Came (partition_at s.drive.tables p).objects a
    earlier b n e (inl h) = inl (subst (Multiple extent_step) e h)
    earlier b n e (inr h) = inr (h.0, h.1, h.2 ∙ n, h.3 ∙ e)

    go : Came (partition_at (step s c).drive.tables p).objects a → Came (partition_at s.drive.tables p).objects a
    go (inl h) = inl h
    go (inr h) = earlier h.0 h.2 h.3 (after_call s c p h.0 h.1)

pub starts_kept : StartsKept
starts_kept s calls p a k = kept_list calls s p a k

-- a format leaves no object
none_yet : (n F p : ℕ) → (get_or (replicate n (empty_partition {A = Object} F)) p (empty_partition 0)).objects ≡ []
none_yet zero F p = refl
none_yet (suc n) F zero = refl
none_yet (suc n) F (suc p) = none_yet n F p

format-empty : (medium : List ℕ) (F : ℕ) (master drive : List ℕ) (p : ℕ)
    → (partition_at (format medium F master drive).drive.tables p).objects ≡ []
unfolding format
format-empty medium F master drive p =
    by_branches (λ (f : Formatted). (partition_at f.drive.tables p).objects ≡ [])
    (first_row (format_rows medium F master drive) is 0) (none_yet 4 F p) (none_yet 4 0 p)

pub on_steps : OnSteps
on_steps medium F master drive calls p a k = go (starts_kept s calls p a k)
  where
    s : State
    s = record { drive = (format medium F master drive).drive; medium = (format medium F master drive).medium }

    go : Came (partition_at s.drive.tables p).objects a → OnStep a
    go (inl h) = h
    go (inr h) = absurd (Memᴰ.not-nil
        (subst (λ (l : List Object). Memᴰ h.0 l) (format-empty medium F master drive p) h.1))
