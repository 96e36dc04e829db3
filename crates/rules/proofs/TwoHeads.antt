-- Document 02, change 2: row 12 by entries of the frame's own object (`two_heads`), what equal nonces share
-- (`together`), and that row 12 answers repeats only (`only_repeats`): every entry of a memory was entered by a grant.
use mathlib.Core.Path.{◌∙◌, ◌≡◌, ap, refl, subst, sym}
use mathlib.Core.Logic.{◌⊎◌, inl, inr}
use mathlib.Core.Bool.{Bool, cond, false, true}
use mathlib.Core.List.Memᴰ
use mathlib.Core.List.{[], ◌++◌, ◌∷◌, List, Memᴰ}
use Prim.Native.Nat.{ℕ}
use native.Mathlib.Decide.{ℕ_discrete}
use lib.ListN.{get_or, get_or-map}
use borrow.Author.Tests.{eq-eqb, eqb-true}
use Rattle.lemmas.specs.Fill.{replicate_at}
use Rattle.lemmas.specs.ListLaws.{member-keep, member_some, member_updated, some_keep, some_member}
use Rattle.lemmas.specs.Lists.{keep, some?}
use Rattle.lemmas.specs.RowTable.{answer-applies, first_row, Row}
use Rattle.lemmas.specs.Tests.{◌is◌, and_l, and_r, by_branches, or_only}
use Rattle.rules.specs.declared.Credential.{Credential}
use Rattle.rules.specs.declared.Entry.{Entry}
use Rattle.rules.specs.declared.Object.{Object}
use Rattle.rules.specs.declared.Request.{Request}
use Rattle.rules.specs.Demands.{after, answer, call_fields, Granted, Nonce, nonce, State, step}
use Rattle.rules.specs.Drive.{Drive, format, format_rows, Formatted, lives, new_high_water, refresh, same_entry}
use Rattle.rules.specs.Frame.{entry, memory_index}
use Rattle.rules.specs.Gate.{Answer, Call, granted}
use Rattle.rules.specs.Operations.{remember}
use Rattle.rules.specs.Rows.{drive_rows, frame_rows, row12, rows, scope_rows}
use Rattle.rules.specs.Scope.{drive_scope, Scope}
use Rattle.rules.specs.TwoHeads.{IsNonce, of_object, OnlyRepeats, Repeats, Together, TwoHeads}
use Rattle.rules.proofs.Answers.{gate-granted, gate-refused, gate-row}
use Rattle.rules.proofs.Memories.{same_entry_lem}

-- ---- row 12
-- an entry that is the same as the frame's is its nonce, and the other way about
nonce_is : (c : Credential) (r : Request) (e : Entry) → same_entry (entry c r) e ≡ true → IsNonce c r e
unfolding same_entry entry
nonce_is c r e h = record {
  slot = search (and_l, and_r, eqb-true, sym);
  holder = search (and_l, and_r, eqb-true, sym);
  time = search (and_l, and_r, eqb-true, sym);
  count = search (and_l, and_r, eqb-true, sym);
  object = search (and_l, and_r, eqb-true, sym);
}

is_nonce : (c : Credential) (r : Request) (e : Entry) → IsNonce c r e → entry c r ≡ e
unfolding entry
is_nonce c r e k = λ i. record {
  slot = sym k.slot i;
  holder = sym k.holder i;
  time = sym k.time i;
  count = sym k.count i;
  object = sym k.object i;
}

own-object : (c : Credential) (r : Request) (e : Entry) → same_entry (entry c r) e ≡ true → of_object c.object e ≡ true
own-object c r e h = eq-eqb e.object c.object (nonce_is c r e h).object

pub two_heads : (s : Scope Object) (c : Credential) (r : Request) → TwoHeads s c r
unfolding row12
two_heads s c r = record { exact = (there, back); others = some_keep test (of_object c.object) s.memory (own-object c r) }
  where
    test : Entry → Bool
    test e = same_entry (entry c r) e

    there : row12 s c r ≡ true → (e : Entry) × Memᴰ e s.memory × IsNonce c r e
    there h =
        let m = some_member test s.memory h in
        (m.0, m.1, nonce_is c r m.0 m.2)

    back : ((e : Entry) × Memᴰ e s.memory × IsNonce c r e) → row12 s c r ≡ true
    back h = member_some test s.memory h.0 h.1
        (subst (λ (a : Entry). test a ≡ true) (is_nonce c r h.0 h.2) (same_entry_lem (entry c r)))

-- ---- equal nonces
pub together : Together
unfolding nonce entry
together c d = (
  λ e. record {
    memory = ap Nonce.memory e;
    slot = ap (λ (n : Nonce). n.entry.slot) e;
    holder = ap (λ (n : Nonce). n.entry.holder) e;
    time = ap (λ (n : Nonce). n.entry.time) e;
    count = ap (λ (n : Nonce). n.entry.count) e;
    object = ap (λ (n : Nonce). n.entry.object) e;
  },
  λ k. λ i. record {
    memory = k.memory i;
    entry = record {
      slot = k.slot i;
      holder = k.holder i;
      time = k.time i;
      count = k.count i;
      object = k.object i;
    };
  },
)

-- ---- where entries come from
abbrev memory_of : Drive → ℕ → List Entry
memory_of d k = get_or d.memories k []

abbrev call_entry : Call → Entry
call_entry c = entry (call_fields c).cred (call_fields c).req

abbrev call_memory : Call → ℕ
call_memory c = memory_index (call_fields c).cred

-- the new mark brings no entry
refreshed_had : (clock : ℕ) (d : Drive) (k : ℕ) (e : Entry) → Memᴰ e (memory_of (refresh clock d) k)
    → Memᴰ e (memory_of d k)
unfolding refresh keep
refreshed_had clock d k e m =
    let mark = new_high_water d.tables.high_water clock in
    member-keep (lives mark) (memory_of d k) e
    (subst (λ (l : List Entry). Memᴰ e l) (get_or-map (keep (lives mark)) d.memories k []) m)

-- an entry that is there after a call was there before, or the call was granted and entered it
abbrev HadOrEntered : State → Call → ℕ → Entry → Type 0
HadOrEntered s c k e = Memᴰ e (memory_of s.drive k)
    ⊎ (((answer s c).row ≡ 0) × (call_memory c ≡ k) × (call_entry c ≡ e))

had_or_entered : (s : State) (c : Call) (k : ℕ) (e : Entry) → Memᴰ e (memory_of (step s c).drive k) → HadOrEntered s c k e
unfolding step answer granted remember
had_or_entered s c k e m = go (ℕ_discrete (first_row table) 0)
  where
    table : List Row
    table = rows s.drive s.medium c.frame c.clock c.space

    fresh : Drive
    fresh = refresh c.clock s.drive

    leaves : (a : Answer Drive) → answer s c ≡ a → Memᴰ e (memory_of a.drive k)
    leaves a h = subst (λ (b : Answer Drive). Memᴰ e (memory_of b.drive k)) h m

    had : Memᴰ e (memory_of fresh k) → HadOrEntered s c k e
    had n = inl (refreshed_had c.clock s.drive k e n)

    new : Memᴰ e (get_or fresh.memories (call_memory c) []) ⊎ Memᴰ e (call_entry c ∷ [])
        → first_row table ≡ 0 → call_memory c ≡ k → HadOrEntered s c k e
    new (inl n) z h = had (subst (λ (j : ℕ). Memᴰ e (memory_of fresh j)) h n)
    new (inr n) z h = inr (gate-row s.drive s.medium c ∙ z, h, sym (Memᴰ.eq_of_singleton n))

    either : first_row table ≡ 0
        → ((call_memory c ≡ k) × Memᴰ e (remember (call_fields c) (get_or fresh.memories (call_memory c) [])))
        ⊎ Memᴰ e (memory_of fresh k) → HadOrEntered s c k e
    either z (inl n) = new (Memᴰ.append_cases (get_or fresh.memories (call_memory c) []) n.1) z n.0
    either z (inr n) = had n

    kept : (b : Bool) → Memᴰ e (memory_of (cond b s.drive fresh) k) → HadOrEntered s c k e
    kept true n = inl n
    kept false n = had n

    go : Dec (first_row table ≡ 0) → HadOrEntered s c k e
    go (yes z) = either z (member_updated (call_memory c) k
        (λ (old : List Entry). remember (call_fields c) (get_or fresh.memories (call_memory c) []))
        fresh.memories e (leaves _ (gate-granted s.drive s.medium c z)))
    go (no z) = kept (first_row table is 1) (leaves _ (gate-refused s.drive s.medium c z))

-- an entry of a memory after a list of calls was there before them, or one of them was granted and entered it
record EnteredBy (s : State) (calls : List Call) (k : ℕ) (e : Entry) : Type 0 where
  front : List Call
  first : Call
  between : List Call
  split : calls ≡ front ++ (first ∷ between)
  granted : Granted s front first
  memory : call_memory first ≡ k
  same : call_entry first ≡ e

origin : (calls : List Call) (s : State) (k : ℕ) (e : Entry) → Memᴰ e (memory_of (after s calls).drive k)
    → Memᴰ e (memory_of s.drive k) ⊎ EnteredBy s calls k e
unfolding after
origin [] s k e m = inl m
origin (c ∷ cs) s k e m = go (origin cs (step s c) k e m)
  where
    here : HadOrEntered s c k e → Memᴰ e (memory_of s.drive k) ⊎ EnteredBy s (c ∷ cs) k e
    here (inl n) = inl n
    here (inr n) = inr (record {
      front = [];
      first = c;
      between = cs;
      split = refl;
      granted = n.0;
      memory = n.1;
      same = n.2;
    })

    go : Memᴰ e (memory_of (step s c).drive k) ⊎ EnteredBy (step s c) cs k e
        → Memᴰ e (memory_of s.drive k) ⊎ EnteredBy s (c ∷ cs) k e
    go (inl n) = here (had_or_entered s c k e n)
    go (inr n) = inr (record {
      front = c ∷ n.front;
      first = n.first;
      between = n.between;
      split = ap (λ (l : List Call). c ∷ l) n.split;
      granted = n.granted;
      memory = n.memory;
      same = n.same;
    })

-- ---- row 12 as an answer
-- row 12's test of a call put to the drive d
abbrev test12 : Drive → Call → Bool
test12 d c = row12 (drive_scope (refresh c.clock d) (call_fields c).cred) (call_fields c).cred (call_fields c).req

given_12 : (d : Drive) (m : List ℕ) (c : Call) → first_row (rows d m c.frame c.clock c.space) ≡ 12
    → test12 d c ≡ true
unfolding rows frame_rows drive_rows scope_rows some?
given_12 d m c h = or_only (test12 d c) (answer-applies 12 (rows d m c.frame c.clock c.space) refl h)

-- a format leaves every memory empty
format-empty : (medium : List ℕ) (F : ℕ) (master drive : List ℕ) (k : ℕ)
    → memory_of (format medium F master drive).drive k ≡ []
unfolding format
format-empty medium F master drive k =
    by_branches (λ (f : Formatted). memory_of f.drive k ≡ []) (first_row (format_rows medium F master drive) is 0)
    (replicate_at 5 k []) (replicate_at 5 k [])

pub only_repeats : OnlyRepeats
unfolding answer nonce
only_repeats medium F master drive before c h = go (origin before s k held.0 (refreshed_had c.clock d k held.0 held.1))
  where
    s : State
    s = record { drive = (format medium F master drive).drive; medium = (format medium F master drive).medium }

    d : Drive
    d = (after s before).drive

    m : List ℕ
    m = (after s before).medium

    k : ℕ
    k = call_memory c

    held : (e : Entry) × Memᴰ e (memory_of (refresh c.clock d) k) × IsNonce (call_fields c).cred (call_fields c).req e
    held = (two_heads (drive_scope (refresh c.clock d) (call_fields c).cred) (call_fields c).cred (call_fields c).req).exact.0
        (given_12 d m c (sym (gate-row d m c) ∙ h))

    go : Memᴰ held.0 (memory_of s.drive k) ⊎ EnteredBy s before k held.0 → Repeats s before c
    go (inl n) =
        absurd (Memᴰ.not-nil (subst (λ (l : List Entry). Memᴰ held.0 l) (format-empty medium F master drive k) n))
    go (inr n) = record {
      front = n.front;
      first = n.first;
      between = n.between;
      split = n.split;
      granted = n.granted;
      shared = (together n.first c).0 (λ i. record {
        memory = n.memory i;
        entry = (n.same ∙ sym (is_nonce (call_fields c).cred (call_fields c).req held.0 held.2)) i;
      });
    }
