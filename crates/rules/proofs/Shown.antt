-- A granted read shows the ledger's bytes (`read-shown`), and the length of a reply (`answer-length`).
use mathlib.Core.Path.{◌∙◌, ◌≡◌, ap, refl, subst, sym}
use mathlib.Core.Bool.{Bool, cond, false, true}
use mathlib.Core.List.{[], ◌++◌, append_assoc, List}
use Prim.Native.Nat.{◌*◌, ◌+◌, ◌≤◌, ℕ}
use native.Mathlib.Omega.{arith}
use lib.ListN.{length, length-append, take}
use lib.Seq.{take_at}
use Rattle.lemmas.specs.BigEndian.{big_endian}
use Rattle.lemmas.specs.Lists.{missing, part, splice}
use Rattle.lemmas.specs.Parts.{length_part, part-part}
use Rattle.lemmas.specs.Tests.{◌is◌}
use Rattle.rules.specs.declared.Entry.{Entry}
use Rattle.rules.specs.declared.Object.{Object}
use Rattle.rules.specs.Demands.{answer, call_operation, State}
use Rattle.digest.specs.Hmac.{hmac}
use Rattle.digest.specs.DigestLaws.{length-hmac}
use Rattle.rules.specs.Drive.{Keys, Partition, partition_at, quarter}
use Rattle.rules.specs.declared.Operation.{Operation}
use Rattle.rules.specs.declared.Operation.TheVariants.{Create, Delete, LoadTable, Look, Raise, Read, SetKey, Write}
use Rattle.rules.specs.Frame.{Fields, fields, operation_of, target_of}
use Rattle.rules.specs.Gate.{Call, granted}
use Rattle.rules.specs.Ledger.{bytes_of, clocked, LedgerObject, Ledger}
use Rattle.rules.specs.Operations.{
  credential_key,
  extent_start,
  head,
  headed,
  named_object,
  object_of,
  perform,
  reply,
  reply_length,
  result_length,
  sealed,
}
use Rattle.rules.specs.Scope.{Scope, drive_scope}
use Rattle.rules.proofs.Bare.{sees, the_bytes, the_ledger_object, the_object}
use Rattle.rules.proofs.Clear.{Asks, asks_for, in_object, known_operation, read_moves, there}
use Rattle.rules.proofs.Holds.{Consistent, inside}
use Rattle.rules.proofs.Step.{answer-granted, clear_of_lem, fresh, fresh_inv, Invariant, row_zero, row_of, sees_is}

-- the result comes in the reply after the eight-byte head
in_reply : (x : Fields) (r after space : List ℕ) → part (splice space 0 (headed x.req r ++ after)) 8 (length r) ≡ r
unfolding part splice headed head big_endian
in_reply x r after space = ap (take (length r)) (append_assoc r after _) ∙ take_at r _ (length r) refl

-- the bytes read are the ledger's
abbrev pub piece : Scope Object → Fields → List ℕ → ℕ → ℕ → List ℕ
piece s x m a b = part m (extent_start s x.cred (target_of x.cred x.req) + a) b

read-bytes : (M : ℕ) (m : List ℕ) (l : Ledger) → Consistent M m l → (es : List Entry) (x : Fields) (a b : ℕ)
    → missing (named_object (sees M l es x.cred) (target_of x.cred x.req)) ≡ false
    → a + b ≤ (object_of (sees M l es x.cred) (target_of x.cred x.req)).size
    → (piece (sees M l es x.cred) x m a b ≡ part (bytes_of l x) a b)
    × (length (piece (sees M l es x.cred) x m a b) ≡ b)
unfolding extent_start bytes_of object_of named_object
read-bytes M m l g es x a b e fit = (
  ap (λ (o : Object). part m (p * quarter M + o.start + a) b) object
      ∙ sym (part-part m (p * quarter M + h.object.start) h.object.size a b fit' room)
      ∙ ap (λ (l : List ℕ). part l a b) (g.bytes p h (the_ledger_object here n e).2 ∙ sym (the_bytes here n e)),
  length_part m (extent_start (sees M l es x.cred) x.cred n + a) b
      (omega (arith, room, fit', ap Object.start object)),
)
  where
    p : ℕ
    p = x.cred.partition

    n : ℕ
    n = target_of x.cred x.req

    here : Partition LedgerObject
    here = partition_at l p

    h : LedgerObject
    h = (the_ledger_object here n e).0

    object : object_of (sees M l es x.cred) n ≡ h.object
    object = the_object here n e

    fit' : a + b ≤ h.object.size
    fit' = omega (arith, fit, ap Object.size object)

    room : p * quarter M + h.object.start + h.object.size ≤ length m
    room = inside g p h (the_ledger_object here n e).2

module _ {M : ℕ} {s : State} {l : Ledger} (v : Invariant M s l) (c : Call) (r : (answer s c).row ≡ 0) where
  abbrev x : Fields
  x = fields c.frame

  abbrev scope : Scope Object
  scope = drive_scope (fresh s c) x.cred

  read-piece : (a b : ℕ) → call_operation c ≡ Read a b
      → (piece scope x s.medium a b ≡ part (bytes_of l x) a b) × (length (piece scope x s.medium a b) ≡ b)
  unfolding clocked bytes_of
  read-piece a b o =
      let k = clear_of_lem v c (row_zero v c r) in
      let n = asks_for x.req (Read a b) o in
      let e = sees_is v c in
      subst (λ (t : Scope Object). (piece t x s.medium a b ≡ part (bytes_of l x) a b)
      × (length (piece t x s.medium a b) ≡ b)) (sym e)
      (read-bytes M s.medium (clocked c.clock l) (fresh_inv v c).consistent scope.memory x a b
      (subst (λ (t : Scope Object). missing (named_object t (target_of x.cred x.req)) ≡ false) e (there k (read_moves k o)))
      (subst (λ (t : Scope Object). a + b ≤ (object_of t (target_of x.cred x.req)).size) e
      (omega (arith, n.1, n.2, in_object k (read_moves k o)))))

  pub read-shown : (a b : ℕ) → call_operation c ≡ Read a b → part (answer s c).space 8 b ≡ part (bytes_of l x) a b
  unfolding granted reply perform
  read-shown a b o =
      let res : List ℕ = piece scope x s.medium a b in
      ap (λ (l : List ℕ). part l 8 b) (ap (λ a. a.space) (answer-granted v c (row_zero v c r)))
      ∙ ap (λ (k : Operation). part (splice c.space 0 (reply scope.keys x (perform k scope x s.medium).result))
      8 b) o
      ∙ subst (λ (n : ℕ). part (splice c.space 0 (headed x.req res ++ sealed scope.keys x res)) 8 n ≡ res)
      (read-piece a b o).1 (in_reply x res (sealed scope.keys x res) c.space)
      ∙ (read-piece a b o).0

-- ---- the length that a grant returns is the reply's
length-sealed : (k : Keys) (x : Fields) (r : List ℕ) → length (sealed k x r) ≡ cond (x.req.level is 2) 32 0
unfolding sealed
length-sealed k x r = go (x.req.level is 2)
  where
    go : (b : Bool) → length (cond b (hmac (credential_key k x) (x.credential ++ (x.request ++ headed x.req r)))
        []) ≡ cond b 32 0
    go true = length-hmac (credential_key k x) (x.credential ++ (x.request ++ headed x.req r))
    go false = refl

pub result-length : (s : Scope Object) (x : Fields) (m : List ℕ) → 1 ≤ x.req.operation → x.req.operation ≤ 8
    → ((a b : ℕ) → operation_of x ≡ Read a b → length (piece s x m a b) ≡ b)
    → length (perform (operation_of x) s x m).result ≡ result_length x.req
unfolding perform big_endian
result-length s x m low high h = go (operation_of x) (asks_for x.req (operation_of x) refl) h
  where
    go : (o : Operation) → Asks x.req o → ((a b : ℕ) → o ≡ Read a b → length (piece s x m a b) ≡ b)
        → length (perform o s x m).result ≡ result_length x.req
    go (Read a b) k h =
        let e : result_length x.req ≡ b = rw k.0 k.2 in
        h a b refl ∙ sym e
    go (Write a b) k h = rw k.0 refl
    go Look k h = rw (k low high) refl
    go Raise k h = rw k refl
    go (Create a b) k h = rw k.0 refl
    go Delete k h = rw k refl
    go (SetKey a) k h = rw k.0 refl
    go LoadTable k h = rw k refl

pub reply-length : (k : Keys) (x : Fields) (r : List ℕ)
    → length r ≡ result_length x.req → length (reply k x r) ≡ reply_length x.req
unfolding reply headed head reply_length big_endian
reply-length k x r e =
    omega (arith, length-append (headed x.req r) (sealed k x r), length-sealed k x r, e)

pub answer-length : {M : ℕ} {s : State} {l : Ledger} → Invariant M s l → (c : Call) → (answer s c).row ≡ 0
    → (answer s c).length ≡ length (reply (fresh s c).tables.keys (fields c.frame)
    (perform (call_operation c) (drive_scope (fresh s c) (fields c.frame).cred) (fields c.frame) s.medium).result)
unfolding granted
answer-length {M} {s} {l} v c r =
    ap (λ a. a.length) (answer-granted v c e)
    ∙ sym (reply-length (fresh s c).tables.keys (fields c.frame) _
    (result-length (drive_scope (fresh s c) (fields c.frame).cred) (fields c.frame) s.medium
    (known_operation (clear_of_lem v c e)).0 (known_operation (clear_of_lem v c e)).1
    (λ a b o. (read-piece v c r a b o).1)))
  where
    e : row_of s c ≡ 0
    e = row_zero v c r
