-- Rows that the other theorems would not miss if they refused too much, or the wrong frames: row 22 does not refuse where the
-- memory has an entry to spare; of document 02, change 6, which frames rows 3, 4, 6 and 32 to 34 let pass.
use mathlib.Core.Path.{◌∙◌, ◌≡◌, ap, refl}
use mathlib.Core.Bool.{◌&&◌, ◌||◌, Bool, false, not, true}
use mathlib.Core.List.{[], ◌∷◌, List}
use Prim.Native.Nat.{◌<◌, ◌≤◌, ℕ}
use native.Mathlib.Omega.{arith}
use lib.ListN.{drop, get_or, length}
use borrow.Author.Tests.{eq-eqb, le-ltb, ne_eqb}
use Rattle.lemmas.specs.Lists.{missing}
use Rattle.lemmas.specs.Tests.{◌is◌, ◌over◌, any}
use Rattle.rules.specs.declared.Credential.{Credential}
use Rattle.rules.specs.declared.Object.{Object}
use Rattle.rules.specs.declared.Request.{Request}
use Rattle.rules.specs.Drive.{most_entries}
use Rattle.rules.specs.Frame.{credential_magic, is_group_credential, is_group_request, request_magic}
use Rattle.rules.specs.Group.{is_group_list, lists}
use Rattle.rules.specs.Operations.{named_object}
use Rattle.rules.specs.Rows.{credential_faults, misfits, row22, row3, row32, row33, row34}
use Rattle.rules.specs.Scope.{Scope}

pub spare : (s : Scope Object) → length s.memory < most_entries → row22 s ≡ false
unfolding row22
spare s h = ne_eqb (length s.memory) most_entries (λ e. omega arith)

-- ---- group credentials
-- both of a request's marks pass row 3
pub marks_pass : (c : Credential) (r : Request) → c.magic ≡ credential_magic → (r.magic is request_magic || is_group_request r) ≡ true
    → row3 c r ≡ false
marks_pass c r e f =
    ap (λ (b : Bool). not b || not (r.magic is request_magic || is_group_request r)) (eq-eqb c.magic credential_magic e)
    ∙ ap not f

-- "Rights bit 7, now allowed by row 4"
pub rights_allowed : (c : Credential) → c.rights ≤ 255 → get_or (credential_faults c) 3 true ≡ false
rights_allowed c h = le-ltb 255 c.rights h

-- row 6 has four lines behind those of document 01 and of operation 8. They refuse no frame whose two marks agree and which, under a
-- group credential, has one of operations 1 to 3 and an object
pub no_new_misfit : (c : Credential) (r : Request) → is_group_request r ≡ is_group_credential c
    → (is_group_credential c ≡ true → (r.operation ≤ 3) × (c.object ≡ 0 → ⊥)) → any (drop 11 (misfits c r)) ≡ false
no_new_misfit c r e h = rw e (go (is_group_credential c) h)
  where
    go : (b : Bool) → (b ≡ true → (r.operation ≤ 3) × (c.object ≡ 0 → ⊥))
        → any ((b && r.operation over 3) ∷ (b && c.object is 0) ∷ (b && not b) ∷ (not b && b) ∷ []) ≡ false
    go true k = rw (le-ltb 3 r.operation (k refl).0, ne_eqb c.object 0 (k refl).1) refl
    go false k = refl

none : (b : Bool) → (b && false) ≡ false
none true = refl
none false = refl

-- a list that has the member, which exists, passes rows 32 to 34
pub list-passes : (group : List ℕ) (r : Request) → is_group_list group ≡ true → row32 group r ≡ false
unfolding row32
list-passes group r e = ap (λ (b : Bool). is_group_request r && not b) e ∙ none (is_group_request r)

pub listed-passes : (group : List ℕ) (r : Request) → lists group r.member ≡ true → row33 group r ≡ false
unfolding row33
listed-passes group r e = ap (λ (b : Bool). is_group_request r && not b) e ∙ none (is_group_request r)

pub member-passes : (s : Scope Object) (r : Request) → missing (named_object s r.member) ≡ false → row34 s r ≡ false
unfolding row34
member-passes s r e = ap (λ (b : Bool). is_group_request r && b) e ∙ none (is_group_request r)
