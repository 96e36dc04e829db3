-- Document 02, change 2: "Two heads now run as one holder, each counting from zero, so frames for two objects pass for
-- repeats." Now that an entry has the credential's object they do not: row 12 looks at entries of the frame's own object
-- alone, and in a list of calls it answers repeats alone. Proved in proofs/: `two_heads`, `together`, `only_repeats`.
-- s: a scope. c, r: the numbers of a frame's credential and request. e: an entry of a memory.
use Rattle.std.specs.Prelude.{◌≡◌, ◌↔◌, Bool, true, ℕ}
use mathlib.Core.List.{◌++◌, ◌∷◌, List, Memᴰ}
use Rattle.lemmas.specs.Lists.{keep}
use Rattle.lemmas.specs.Tests.{◌is◌}
use Rattle.rules.specs.declared.Credential.{Credential}
use Rattle.rules.specs.declared.Entry.{Entry}
use Rattle.rules.specs.declared.Object.{Object}
use Rattle.rules.specs.declared.Request.{Request}
use Rattle.rules.specs.Demands.{after, answer, call_fields, Granted, nonce, State}
use Rattle.rules.specs.Drive.{format}
use Rattle.rules.specs.Frame.{memory_index}
use Rattle.rules.specs.Gate.{Call}
use Rattle.rules.specs.Rows.{row12}
use Rattle.rules.specs.Scope.{Scope, with_memory}

-- ---- one frame
-- e is the frame's nonce: its slot, holder, time and count, and "the credential's object too"
pub record IsNonce (c : Credential) (r : Request) (e : Entry) : Type 0 where
  pub slot : e.slot ≡ c.slot
  pub holder : e.holder ≡ c.holder
  pub time : e.time ≡ r.time
  pub count : e.count ≡ r.count
  pub object : e.object ≡ c.object

-- e is of the object n
abbrev pub of_object : ℕ → Entry → Bool
of_object n e = e.object is n

pub record TwoHeads (s : Scope Object) (c : Credential) (r : Request) : Type 0 where
  -- row 12 applies exactly where the memory has the frame's nonce
  pub exact : (row12 s c r ≡ true) ↔ ((e : Entry) × Memᴰ e s.memory × IsNonce c r e)
  -- so entries of other objects are nothing to it: with all of them taken out, it says the same
  pub others : row12 (with_memory (keep (of_object c.object) s.memory) s) c r ≡ row12 s c r

-- ---- two calls: "nonce memory, slot, holder, time, count and object together"
pub record Share (c d : Call) : Type 0 where
  pub memory : memory_index (call_fields c).cred ≡ memory_index (call_fields d).cred
  pub slot : (call_fields c).cred.slot ≡ (call_fields d).cred.slot
  pub holder : (call_fields c).cred.holder ≡ (call_fields d).cred.holder
  pub time : (call_fields c).req.time ≡ (call_fields d).req.time
  pub count : (call_fields c).req.count ≡ (call_fields d).req.count
  pub object : (call_fields c).cred.object ≡ (call_fields d).cred.object

-- these six are what demand 3's `no_repeat` speaks of
abbrev pub Together : Type 0
Together = (c d : Call) → (nonce c ≡ nonce d) ↔ Share c d

-- ---- a list of calls
-- of the calls before c, put to the state s, one was granted that shares all six with c
pub record Repeats (s : State) (before : List Call) (c : Call) : Type 0 where
  pub front : List Call
  pub first : Call
  pub between : List Call
  pub split : before ≡ front ++ (first ∷ between)
  pub granted : Granted s front first
  pub shared : Share first c

-- in every list of calls from a format, row 12 is the answer only to a frame that shares all six with an earlier grant
abbrev pub OnlyRepeats : Type 0
OnlyRepeats =
    (medium : List ℕ) (F : ℕ) (master drive : List ℕ) (before : List Call) (c : Call)
    → let s : State = record { drive = (format medium F master drive).drive; medium = (format medium F master drive).medium } in
    (answer (after s before) c).row ≡ 12 → Repeats s before c
