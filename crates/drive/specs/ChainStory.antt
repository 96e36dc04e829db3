-- The customer's story, "The shape I read belongs to one log", over the code's own contract: of any calls of format
-- and gate that keep their promises. Proved in proofs/: `story`.
-- c, d: calls made. p: a partition. n: an object's number. k: a log's number. v: a version. l: a ledger. M: the medium's size.
use Rattle.std.specs.Prelude.{◌≡◌, ◌++◌, ◌∷◌, List, map, ℕ, length}
use Rattle.lemmas.specs.Lists.{part}
use Rattle.rules.specs.Demands.{call_fields, call_operation}
use Rattle.rules.specs.declared.Operation.TheVariants.{Read}
use Rattle.rules.specs.Ledger.{bytes_of, Ledger, ledger_start}
use Rattle.rules.specs.Operations.{head_size}
use Rattle.rules.specs.Story.{OneLog, OpensNothing, reached, rewritten, Together, Uses, VersionsOnce}
use Rattle.drive.specs.Answers.{Formatted}
use Rattle.drive.specs.Chain.{ledger_after_calls, CallMade, fed_by, Granted, MadeFromFormat}

pub record Story (M : ℕ) (l : Ledger) (calls : List CallMade) : Type 0 where
  -- "Each partition gives versions F, F + 1, .. of its own, each once."
  pub versions : VersionsOnce M l (map fed_by calls)
  -- "The shape I read belongs to one log." Where two granted uses c and d name one object and one version, no grant
  -- between them raised, deleted or created it, and every use between them that names it was under that same version; of a member that
  -- both reach through a group, where the file manager did its part
  pub one_log : OneLog M l (map fed_by calls)
  -- and what d reads is what c found, changed by the granted writes since c and by nothing else
  pub shown : (before between later : List CallMade) (c d : CallMade) (p n v A B : ℕ)
      → calls ≡ before ++ (c ∷ (between ++ (d ∷ later)))
      → Uses p n v (fed_by c)
      → Uses p n v (fed_by d)
      → reached (fed_by c) ≡ n
      → reached (fed_by d) ≡ n
      → call_operation d.call ≡ Read A B
      → part d.space head_size B
      ≡ part (rewritten p n (map fed_by (c ∷ between)) (bytes_of (ledger_after_calls M l before) (call_fields c.call))) A B
  -- through a group n: what d reads of its member k is what c found of it, changed by the granted writes to it since c, through
  -- whatever credential, and by nothing else, where the member was renewed only together with the group
  pub member_shown : (before between later : List CallMade) (c d : CallMade) (p n k v A B : ℕ)
      → calls ≡ before ++ (c ∷ (between ++ (d ∷ later)))
      → Uses p n v (fed_by c)
      → Uses p n v (fed_by d)
      → Together p n k (map fed_by between)
      → reached (fed_by c) ≡ k
      → reached (fed_by d) ≡ k
      → call_operation d.call ≡ Read A B
      → part d.space head_size B
      ≡ part (rewritten p k (map fed_by (c ∷ between)) (bytes_of (ledger_after_calls M l before) (call_fields c.call))) A B
  -- "A message that arrives twice counts once": no frame is granted twice, whatever clock readings and spaces it comes with
  pub counts_once : (before between later : List CallMade) (c d : CallMade)
      → calls ≡ before ++ (c ∷ (between ++ (d ∷ later)))
      → Granted c
      → Granted d
      → c.call.frame ≡ d.call.frame → ⊥
  -- "A credential that has run out, or that was made for the log before, opens nothing": neither one of an old version in
  -- operations 1 to 6 nor one whose expiry a clock reading has passed, whether or not it was used before
  pub opens_nothing : OpensNothing M l (map fed_by calls)

-- for every format that returned row 0 and every list of calls
abbrev pub AllOfStory : Type 0
AllOfStory =
    (medium : List ℕ) (F : ℕ) (master key : List ℕ) (r : Formatted) (zeroed : List ℕ) (calls : List CallMade)
    → MadeFromFormat medium F master key r zeroed calls
    → Story (length medium) (ledger_start F master key) calls
