-- What the solver believes: demand 3's reads, seen through the reply check (demand 2).
use mathlib.Core.Path.{◌∙◌, ◌≡◌, ap, subst, sym}
use mathlib.Core.List.{◌++◌, ◌∷◌, List}
use Prim.Native.Nat.{◌+◌, ◌≤◌, ℕ}
use native.Mathlib.Omega.{arith}
use lib.ListN.{drop, length, length-drop, take, take-append-drop}
use lib.Seq.{drop-append-le, take-append-le}
use Rattle.lemmas.specs.Lists.{part}
use Rattle.lemmas.specs.RowTable.{first_row}
use Rattle.digest.specs.Hmac.{hmac}
use Rattle.rules.specs.declared.Object.{Object}
use Rattle.rules.specs.declared.Operation.TheVariants.{Read}
use Rattle.rules.specs.Client.{check_rows, frame_of}
use Rattle.rules.specs.Demands.{call_fields, call_operation}
use Rattle.rules.specs.Drive.{Keys, Tables}
use Rattle.rules.specs.Frame.{covered, Fields, fields, operation, request_at, target_of}
use Rattle.rules.specs.Ledger.{bytes_of, Ledger, ledger_start, tables_of}
use Rattle.rules.specs.Operations.{credential_key, head_size, result_length}
use Rattle.rules.proofs.Clear.{asks_for}
use Rattle.drive.specs.Answers.{Formatted}
use Rattle.drive.specs.Chain.{after, CallMade, CallMet, Chain, DriveState, ledger_after_calls, MadeFromFormat}
use Rattle.drive.specs.View.{view}
use Rattle.drive.proofs.Calls.{chain_rest}
use Rattle.drive.proofs.Demand3.{demand3}
use Rattle.drive.proofs.LentCalls.{lent-made}
use Rattle.drive.specs.Lent.{formatted_with}
use Rattle.client.proofs.RoundTrip.{built-frame}
use Rattle.reply_check.specs.CheckLaws.{check-row_is, found-result, result-within}
use Rattle.solver.specs.CheckedLaws.{checked_granted}
use Rattle.promises.specs.Calls.{BuildMade, CheckMade, issued_bytes, IssueMade}
use Rattle.promises.specs.Demand2.{Accepted, SlotHas}
use Rattle.promises.specs.Solver.{AllOfLentSolver, AllOfSolver, Believed, ReadMade}
use Rattle.promises.proofs.Demand2.{accepted, issues, read_as_built}

-- ---- a part of a list's first bytes is that part of the list
part_left : (p q : List ℕ) (a b : ℕ) → a + b ≤ length p → part (p ++ q) a b ≡ part p a b
unfolding part
part_left p q a b h =
    ap (take b) (drop-append-le a p q (omega arith))
    ∙ take-append-le b (drop a p) q (omega (arith, length-drop a p))

part-front : (n : ℕ) (l : List ℕ) (a b : ℕ) → a + b ≤ length (take n l) → part (take n l) a b ≡ part l a b
part-front n l a b h = sym (part_left (take n l) (drop n l) a b h) ∙ ap (λ (x : List ℕ). part x a b) (take-append-drop n l)

module _
    (medium : List ℕ)
    (F : ℕ)
    (master key : List ℕ)
    (r : Formatted)
    (zeroed : List ℕ)
    (calls : List CallMade)
    (made : MadeFromFormat medium F master key r zeroed calls)
    (before later : List CallMade)
    (c : CallMade)
    (i : IssueMade)
    (b : BuildMade)
    (k : CheckMade)
    (A B : ℕ)
    (e : calls ≡ before ++ (c ∷ later))
  where
    abbrev l : Ledger
    l = ledger_after_calls (length medium) (ledger_start F master key) before

    abbrev start : DriveState
    start = record { drive = r.drive; medium = zeroed }

    abbrev s : DriveState
    s = after start before

    met : CallMet s c
    unfolding Chain
    met = (chain_rest start before (c ∷ later) (subst (Chain start) e made.chain)).0

    -- the drive's keys are the ledger's
    keys_are : (view s.drive).tables.keys ≡ l.keys
    unfolding tables_of
    keys_are = ap (λ (t : Tables Object). t.keys) ((demand3 medium F master key r zeroed calls made).agrees before (c ∷ later) e).tables

    module _ (h : ReadMade l i b c k A B) where
      has : SlotHas (view s.drive).tables.keys i
      has = subst (λ (keys : Keys). SlotHas keys i) (sym keys_are) h.slot

      -- the frame begins with the issuer's bytes
      abbrev rest : List ℕ
      rest = b.request ++ (b.payload ++ hmac b.key (covered (request_at b.request 0).level b.credential b.request b.payload))

      frame_is : c.call.frame ≡ issued_bytes i ++ rest
      unfolding frame_of
      frame_is =
          h.frame
          ∙ built-frame b.credential b.request b.payload b.key b.space b.answer b.after h.build h.built
          ∙ ap (λ (a : List ℕ). a ++ rest) h.source.credential

      key_is : b.key ≡ credential_key (view s.drive).tables.keys (fields c.call.frame)
      key_is =
          h.source.key
          ∙ sym ((issues i h.issue h.issued h.fits).key (view s.drive).tables.keys rest has)
          ∙ ap (λ (f : List ℕ). credential_key (view s.drive).tables.keys (fields f)) (sym frame_is)

      checked : Accepted s c k
      checked = accepted b s c k (record {
        built = h.build;
        row = h.built;
        call = met;
        frame = h.frame;
        granted = h.granted;
        key = key_is;
        check = h.check;
        credential = h.credential;
        request = h.same_request;
        same_key = h.key;
        reply = h.reply;
      })

      -- its request is the solver's, which asks for a read of B bytes
      request_is : (call_fields c.call).req ≡ request_at b.request 0
      request_is = ap Fields.req (ap fields h.frame ∙ (read_as_built b h.build h.built).fields)

      asked : call_operation c.call ≡ Read A B
      asked = ap operation request_is ∙ h.request

      credential_is : (call_fields c.call).cred ≡ i.credential
      credential_is = ap (λ (f : List ℕ). (fields f).cred) frame_is ∙ (issues i h.issue h.issued h.fits).cred rest

      long : result_length (request_at k.request 0) ≡ B
      long =
          let a = asks_for (request_at b.request 0) (Read A B) h.request in
          ap (λ (q : List ℕ). result_length (request_at q 0)) h.same_request ∙ rw a.0 a.2

      -- the check's result is the part of the reply after its head, and that the ledger's bytes
      no_row : first_row (check_rows k.credential k.request k.key k.reply.now) ≡ 0
      no_row = sym (check-row_is k.credential k.request k.key k.reply.now) ∙ sym h.check.row ∙ checked.row

      in_reply : head_size + B ≤ length k.reply.now
      in_reply = omega (arith, result-within k.credential k.request k.key k.reply.now no_row, long)

      shape : part k.reply.now head_size B ≡ part (bytes_of l (call_fields c.call)) A B
      shape =
          ap (λ (x : List ℕ). part x head_size B) h.reply
          ∙ part-front c.answer.length c.space head_size B (subst (λ (x : List ℕ). head_size + B ≤ length x) h.reply in_reply)
          ∙ (demand3 medium F master key r zeroed calls made).shown before later c A B e h.granted asked

      pub believed : Believed l i c k A B
      believed = record {
        object = credential_is;
        log = (λ j. target_of (credential_is j) (request_is j)) ∙ ap (λ (q : List ℕ). target_of i.credential (request_at q 0)) (sym h.same_request);
        row = checked.row;
        bytes = h.check.result ∙ found-result k.credential k.request k.key k.reply.now no_row
            ∙ ap (part k.reply.now head_size) long ∙ shape;
        length = checked.length ∙ long;
        start = checked.start;
        exported = sym (checked_granted k.credential k.request k.key k.reply k.row k.part h.check checked.row)
            ∙ (λ j. record { row = 0; start = head_size; length = (checked.length ∙ long) j });
        shape = shape;
      }

pub solver_believes : AllOfSolver
solver_believes medium F master key r zeroed calls made before later c i b k A B e h =
    believed medium F master key r zeroed calls made before later c i b k A B e h

pub lent_solver_believes : AllOfLentSolver
lent_solver_believes medium F master key d zeroed calls made =
    solver_believes medium F master key (formatted_with 0 d) zeroed _ (lent-made medium F master key d zeroed calls made)
