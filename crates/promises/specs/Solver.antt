-- What the customer's solver believes, of the whole way of one read:
-- "My cutting solver reads what the scan store hands out .. and it believes every byte."
-- Of any calls of format, gate, issuer, builder and reply check that keep their promises, and of nothing else.
-- Proved in proofs/: `solver_believes`, `lent_solver_believes`. Letters as in Calls; l: a ledger. M: the medium's size.
use Rattle.std.specs.Prelude.{◌≡◌, ◌++◌, ◌∷◌, List, map, ℕ, length}
use Rattle.lemmas.specs.Lists.{part}
use Rattle.rules.specs.declared.Operation.TheVariants.{Read}
use Rattle.rules.specs.Demands.{call_fields}
use Rattle.rules.specs.Frame.{CredentialFits, operation, request_at, target_of}
use Rattle.rules.specs.Ledger.{bytes_of, Ledger, ledger_start}
use Rattle.rules.specs.Operations.{head_size}
use Rattle.drive.specs.declared.Drive.{Drive}
use Rattle.drive.specs.Answers.{Formatted}
use Rattle.drive.specs.Chain.{CallMade, Granted, ledger_after_calls, MadeFromFormat}
use Rattle.drive.specs.Lent.{LentCall, LentFromFormat, made_from}
use Rattle.reply_check.specs.Met.{place_after}
use Rattle.solver.specs.declared.ReplyChecked.{ReplyChecked}
use Rattle.solver.specs.Exported.{checked_of}
use Rattle.promises.specs.Calls.{
  BuildKept,
  BuildMade,
  built_bytes,
  CheckKept,
  CheckMade,
  IssueKept,
  IssueMade,
  reply_bytes,
}
use Rattle.promises.specs.Demand2.{BuiltFrom, SlotHas}

-- ---- one read: "I send a frame with another credential and get the shape back". l: the ledger before that call
pub record ReadMade (l : Ledger) (i : IssueMade) (b : BuildMade) (c : CallMade) (k : CheckMade) (A B : ℕ) : Type 0 where
  -- the file manager had the credential issued under the key that its slot then has
  pub issue : IssueKept i
  pub issued : i.answer.row ≡ 0
  pub fits : CredentialFits i.credential
  pub slot : SlotHas l.keys i
  -- the solver had a frame built of that credential, its key and a request for B bytes from A on (with no data, by row 28)
  pub build : BuildKept b
  pub built : b.answer.row ≡ 0
  pub source : BuiltFrom i b
  pub request : operation (request_at b.request 0) ≡ Read A B
  -- the gate granted it
  pub frame : c.call.frame ≡ built_bytes b
  pub granted : Granted c
  -- and the solver had the reply checked, by the same records and key
  pub check : CheckKept k
  pub credential : k.credential ≡ b.credential
  pub same_request : k.request ≡ b.request
  pub key : k.key ≡ b.key
  pub reply : k.reply.now ≡ reply_bytes c

-- ---- what the check then returns: row 0 and exactly "the bytes from A up to A + B of the ledger's object"
pub record Believed (l : Ledger) (i : IssueMade) (c : CallMade) (k : CheckMade) (A B : ℕ) : Type 0 where
  -- the object is the one that the issued credential names, and the log the one that the solver asked for: that object, or under a
  -- group credential the member that its request names
  pub object : (call_fields c.call).cred ≡ i.credential
  pub log : target_of (call_fields c.call).cred (call_fields c.call).req ≡ target_of i.credential (request_at k.request 0)
  pub row : k.row ≡ 0
  pub bytes : k.part.now ≡ part (bytes_of l (call_fields c.call)) A B
  -- they are B bytes, the part of the reply after its head
  pub length : length k.part.now ≡ B
  pub start : k.part.ref_ptr ≡ place_after k.reply head_size
  -- and what the solver gets, which is written in C: row 0, and the place and the length of these bytes in the reply
  pub exported : ◌≡◌ {A = ReplyChecked} (checked_of k.credential k.request k.key k.reply.now)
      (record { row = 0; start = head_size; length = B })
  pub shape : part k.reply.now head_size B ≡ part (bytes_of l (call_fields c.call)) A B

-- ---- for every format that returned row 0, every list of calls, and every read among them, at any level
abbrev pub SolverBelieves : ℕ → Ledger → List CallMade → Type 0
SolverBelieves M l calls =
    (before later : List CallMade) (c : CallMade) (i : IssueMade) (b : BuildMade) (k : CheckMade) (A B : ℕ)
    → calls ≡ before ++ (c ∷ later)
    → ReadMade (ledger_after_calls M l before) i b c k A B
    → Believed (ledger_after_calls M l before) i c k A B

abbrev pub AllOfSolver : Type 0
AllOfSolver =
    (medium : List ℕ) (F : ℕ) (master key : List ℕ) (r : Formatted) (zeroed : List ℕ) (calls : List CallMade)
    → MadeFromFormat medium F master key r zeroed calls
    → SolverBelieves (length medium) (ledger_start F master key) calls

-- the same of a drive whose record the caller lends in parts, as the store's in C
abbrev pub AllOfLentSolver : Type 0
AllOfLentSolver =
    (medium : List ℕ) (F : ℕ) (master key : List ℕ) (d : Drive) (zeroed : List ℕ) (calls : List LentCall)
    → LentFromFormat medium F master key d zeroed calls
    → SolverBelieves (length medium) (ledger_start F master key) (map made_from calls)
