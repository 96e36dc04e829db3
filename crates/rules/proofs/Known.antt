-- A granted nonce stays known: its memory has it until its time and 5,000 are under the mark, and from then on row 11
-- refuses it.
use mathlib.Core.Path.{◌∙◌, ◌≡◌, ap, subst, sym}
use mathlib.Core.Logic.{◌⊎◌, inl, inr}
use mathlib.Core.Bool.{false, false≢true, true}
use mathlib.Core.List.{[], List}
use Prim.Native.Nat.{◌+◌, ◌<◌, ◌≤◌, ℕ}
use native.Mathlib.Decide.{dec_lt, ℕ_discrete}
use native.Mathlib.Omega.{arith}
use lib.ListN.{get_or, length, get_or-map}
use borrow.Author.Tests.{ltb-false}
use Rattle.lemmas.specs.ListLaws.{nth_update, nth_update_other, some_keep}
use Rattle.lemmas.specs.Lists.{keep, some?, update}
use Rattle.lemmas.specs.Tests.{◌under◌, or_l}
use Rattle.rules.specs.declared.Entry.{Entry}
use Rattle.rules.specs.declared.Object.{Object}
use Rattle.rules.specs.Demands.{answer, call_operation, Nonce, nonce, State, step}
use Rattle.rules.specs.Drive.{Drive, lives, new_high_water, refresh, same_entry}
use Rattle.rules.specs.Frame.{entry, Fields, fields, memory_index}
use Rattle.rules.specs.Gate.{Call, granted}
use Rattle.rules.specs.Ledger.{Ledger}
use Rattle.rules.specs.Operations.{perform, remember}
use Rattle.rules.specs.Rows.{row11, row12}
use Rattle.rules.specs.Scope.{drive_with_scope, Scope, drive_scope, with_memory}
use Rattle.rules.proofs.Clear.{clear11, clear12, in_five}
use Rattle.rules.proofs.Memories.{remember-has, remember_keeps, same_entry_lem, still_lives}
use Rattle.rules.proofs.Step.{clear_of_lem, fresh, fresh_inv, Invariant, row_zero, row_of, step_granted, step_refused}

-- the memory holds the nonce, or it is outlived
abbrev pub Known : Nonce → Drive → Type 0
Known n d = (some? (same_entry n.entry) (get_or d.memories n.memory []) ≡ true)
    ⊎ (n.entry.time + 5000 < d.tables.high_water)

-- the new mark
known_refreshed : (n : Nonce) (d : Drive) (clock : ℕ) → Known n d → Known n (refresh clock d)
unfolding refresh keep
known_refreshed n d clock (inr k) = inr (omega arith)
known_refreshed n d clock (inl k) = go (dec_lt (n.entry.time + 5000) mark)
  where
    mark : ℕ
    mark = new_high_water d.tables.high_water clock

    go : Dec (n.entry.time + 5000 < mark) → Known n (refresh clock d)
    go (yes h) = inr h
    go (no h) =
        inl (ap (some? (same_entry n.entry)) (get_or-map (keep (lives mark)) d.memories n.memory [])
        ∙ some_keep (same_entry n.entry) (lives mark) (get_or d.memories n.memory [])
        (λ e s. still_lives mark n.entry e h s) ∙ k)

-- a grant's own memory grows
known_granted : (n : Nonce) (x : Fields) (d : Drive) (a : Scope Object) → memory_index x.cred < length d.memories → Known n d
    → Known n (drive_with_scope x.cred (with_memory (remember x (drive_scope d x.cred).memory) a) d)
known_granted n x d a h (inr k) = inr k
known_granted n x d a h (inl k) = go (ℕ_discrete n.memory (memory_index x.cred))
  where
    new : List Entry → List Entry
    new old = remember x (get_or d.memories (memory_index x.cred) [])

    go : Dec (n.memory ≡ memory_index x.cred)
        → Known n (drive_with_scope x.cred (with_memory (remember x (drive_scope d x.cred).memory) a) d)
    go (yes e) =
        inl (ap (λ (i : ℕ). some? (same_entry n.entry) (get_or (update (memory_index x.cred) new d.memories) i [])) e
        ∙ ap (some? (same_entry n.entry)) (nth_update (memory_index x.cred) new d.memories [] h)
        ∙ remember_keeps (same_entry n.entry) x (get_or d.memories (memory_index x.cred) [])
        (ap (λ (i : ℕ). some? (same_entry n.entry) (get_or d.memories i [])) (sym e) ∙ k))
    go (no e) = inl (ap (some? (same_entry n.entry))
        (nth_update_other (memory_index x.cred) n.memory new d.memories [] e) ∙ k)

module _ {M : ℕ} {s : State} {l : Ledger} (v : Invariant M s l) (c : Call) where
  abbrev x : Fields
  x = fields c.frame

  in_memory : row_of s c ≡ 0 → memory_index (fields c.frame).cred < length (fresh s c).memories
  in_memory e = omega (arith, in_five (clear_of_lem v c e), (fresh_inv v c).five)

  -- every call leaves a known nonce known
  pub step_known : (n : Nonce) → Known n s.drive → Known n (step s c).drive
  unfolding granted
  step_known n k = go (ℕ_discrete (row_of s c) 0)
    where
      go : Dec (row_of s c ≡ 0) → Known n (step s c).drive
      go (yes e) =
          subst (λ (t : State). Known n t.drive) (sym (step_granted v c e))
          (known_granted n x (fresh s c) (perform (call_operation c) (drive_scope (fresh s c) x.cred) x s.medium).scope (in_memory e)
          (known_refreshed n s.drive c.clock k))
      go (no e) =
          subst (λ (t : State). Known n t.drive) (sym (step_refused v c e))
          (known_refreshed n s.drive c.clock k)

  -- a granted one becomes known
  pub granted_known : (answer s c).row ≡ 0 → Known (nonce c) (step s c).drive
  unfolding nonce granted
  granted_known r =
      let e : row_of s c ≡ 0 = row_zero v c r in
      subst (λ (t : State). Known (nonce c) t.drive) (sym (step_granted v c e))
      (inl (ap (some? (same_entry (entry x.cred x.req))) (nth_update (memory_index x.cred)
      (λ (old : List Entry). remember x (drive_scope (fresh s c) x.cred).memory) (fresh s c).memories [] (in_memory e))
      ∙ remember-has (same_entry (entry x.cred x.req)) x (get_or (fresh s c).memories (memory_index x.cred) []) (same_entry_lem (entry x.cred x.req))))

  -- and a known one is not granted
  pub known_not_granted : Known (nonce c) s.drive → (answer s c).row ≡ 0 → ⊥
  unfolding nonce entry row11 row12
  known_not_granted k r = go (known_refreshed (nonce c) s.drive c.clock k)
    where
      e : row_of s c ≡ 0
      e = row_zero v c r

      go : Known (nonce c) (fresh s c) → ⊥
      go (inl h) = false≢true (sym (clear12 (clear_of_lem v c e)) ∙ h)
      go (inr h) =
          let late : ((fields c.frame).req.time + 5000 under (fresh s c).tables.high_water) ≡ false =
          search (or_l, clear11 (clear_of_lem v c e)) in
          absurd (outlived (ltb-false ((fields c.frame).req.time + 5000) (fresh s c).tables.high_water late) h)
        where
          outlived : (fresh s c).tables.high_water ≤ (fields c.frame).req.time + 5000
              → (entry (fields c.frame).cred (fields c.frame).req).time + 5000 < (fresh s c).tables.high_water → ⊥
          outlived a b = omega arith
