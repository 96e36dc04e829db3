-- The customer's story, "The shape I read belongs to one log", over the calls that a ledger is fed: frames, clock
-- readings and rows, nothing else. A consequence of demand 3, proved in proofs/: `versions-once`, `one_log_lem`,
-- `opens-nothing`.
-- c, d, e: calls. p: a partition. n: an object's number, 0 meaning the partition. k: a log's number. v: a version. l: a ledger.
use Rattle.std.specs.Prelude.{◌≡◌, ◌⊎◌, ◌&&◌, Bool, cond, ◌+◌, ◌<◌, ◌≤◌, ℕ, length}
use Rattle.std.proofs.Math.Option.{Option, map, some}
use mathlib.Core.List.{[], ◌++◌, ◌∷◌, List, Memᴰ}
use Rattle.lemmas.specs.Lists.{find, splice}
use Rattle.lemmas.specs.Tests.{◌is◌}
use Rattle.rules.specs.Demands.{fed}
use Rattle.rules.specs.Drive.{format, Partition, partition_at}
use Rattle.rules.specs.declared.Operation.{Operation}
use Rattle.rules.specs.declared.Operation.TheVariants.{Create, Delete, Raise}
use Rattle.rules.specs.Frame.{Fields, fields, operation_of, target_of}
use Rattle.rules.specs.Gate.{Call}
use Rattle.rules.specs.Ledger.{bytes_of, Fed, LedgerObject, Ledger, ledger, number_of, ledger_start}

-- what a call asks for
abbrev pub fed_fields : Fed → Fields
fed_fields c = fields c.frame

-- ---- "Each partition gives versions F, F + 1, .. of its own, each once."
-- the last version that partition p has given
abbrev pub last_of : Ledger → ℕ → ℕ
last_of l p = (partition_at l p).last

-- the version of object n in a partition, none where it does not exist; object 0 means the partition
unfoldable pub version_in : Partition LedgerObject → ℕ → Option ℕ
version_in p n =
    cond (n is 0) (some p.version)
    (map (λ (h : LedgerObject). h.object.version) (find number_of n p.objects))

abbrev pub version_of : Ledger → ℕ → ℕ → Option ℕ
version_of l p n = version_in (partition_at l p) n

-- c is granted and raises or creates object n of partition p
abbrev pub Giving : Operation → Fields → ℕ → Type 0
Giving o x n = ((o ≡ Raise) × (x.cred.object ≡ n)) ⊎ ((size : ℕ) × (o ≡ Create n size))

pub record Gives (p n : ℕ) (c : Fed) : Type 0 where
  pub granted : c.row ≡ 0
  pub partition : (fed_fields c).cred.partition ≡ p
  pub object : Giving (operation_of (fed_fields c)) (fed_fields c) n

-- c is granted and raises, creates or deletes it
abbrev pub Renewing : Operation → Fields → ℕ → Type 0
Renewing o x n = Giving o x n ⊎ ((o ≡ Delete) × (x.cred.object ≡ n))

pub record Renews (p n : ℕ) (c : Fed) : Type 0 where
  pub granted : c.row ≡ 0
  pub partition : (fed_fields c).cred.partition ≡ p
  pub object : Renewing (operation_of (fed_fields c)) (fed_fields c) n

pub record VersionsOnce (M : ℕ) (l : Ledger) (calls : List Fed) : Type 0 where
  -- the last version given never falls
  pub rises : (before between later : List Fed) (p : ℕ)
      → calls ≡ before ++ (between ++ later)
      → last_of (ledger M l before) p ≤ last_of (ledger M l (before ++ between)) p
  -- each raise and each create gives the next one, to the object that it raises or creates
  pub next : (before later : List Fed) (c : Fed) (p n : ℕ)
      → calls ≡ before ++ (c ∷ later)
      → Gives p n c
      → (last_of (ledger M l (before ++ (c ∷ []))) p ≡ last_of (ledger M l before) p + 1)
      × (version_of (ledger M l (before ++ (c ∷ []))) p n ≡ some (last_of (ledger M l before) p + 1))
  -- any other call, a refused one too, leaves the last version given, and the versions of what it does not renew
  pub still : (before later : List Fed) (c : Fed) (p : ℕ)
      → calls ≡ before ++ (c ∷ later)
      → ((n : ℕ) → Gives p n c → ⊥)
      → last_of (ledger M l (before ++ (c ∷ []))) p ≡ last_of (ledger M l before) p
  pub kept : (before later : List Fed) (c : Fed) (p n : ℕ)
      → calls ≡ before ++ (c ∷ later)
      → (Renews p n c → ⊥)
      → version_of (ledger M l (before ++ (c ∷ []))) p n ≡ version_of (ledger M l before) p n
  -- what is there has a version that was given
  pub given : (before later : List Fed) (p n v : ℕ)
      → calls ≡ before ++ later
      → version_of (ledger M l before) p n ≡ some v
      → v ≤ last_of (ledger M l before) p
  -- and a version once replaced never returns
  pub once : (before between later : List Fed) (c : Fed) (p n v : ℕ)
      → calls ≡ before ++ (c ∷ (between ++ later))
      → version_of (ledger M l before) p n ≡ some v
      → Renews p n c
      → version_of (ledger M l (before ++ (c ∷ between))) p n ≡ some v → ⊥

-- ---- "A scanner head sends a frame with a credential and writes a log's shape;
-- I send a frame with another credential and get the shape back":
-- c is granted and reads, writes or looks (operations 1 to 3) under a credential that names object n of partition p in version v:
-- a log, or a group of logs
pub record Uses (p n v : ℕ) (c : Fed) : Type 0 where
  pub granted : c.row ≡ 0
  pub operation : (fed_fields c).req.operation ≤ 3
  pub partition : (fed_fields c).cred.partition ≡ p
  pub object : (fed_fields c).cred.object ≡ n
  pub version : (fed_fields c).cred.version ≡ v

-- the log that it reads, writes or looks at: the one that its credential names, or under a group credential the member
abbrev pub reached : Fed → ℕ
reached c = target_of (fed_fields c).cred (fed_fields c).req

-- c is a granted write to log k of partition p, whatever its credential names
abbrev pub writes : ℕ → ℕ → Fed → Bool
writes p k c =
    c.row is 0
    && (fed_fields c).req.operation is 2
    && (fed_fields c).cred.partition is p
    && reached c is k

-- the file manager's part in a group: among these calls log k is raised, deleted or created only where object n is too. Change 6 of
-- document 02: "So a credential made for the log before is known by the group's version only, and the file manager raises
-- that too." Where n is k it holds of any calls
abbrev pub Together : ℕ → ℕ → ℕ → List Fed → Type 0
Together p n k calls = (e : Fed) → Memᴰ e calls → Renews p k e → (f : Fed) × (Memᴰ f calls × Renews p n f)

-- the bytes b, changed by the granted writes to log k of partition p among these calls, and by nothing else
unfoldable pub rewritten : ℕ → ℕ → List Fed → List ℕ → List ℕ
rewritten p k [] b = b
rewritten p k (c ∷ cs) b =
    rewritten p k cs (cond (writes p k c) (splice b (fed_fields c).req.A (fed_fields c).payload) b)

-- "The shape I read belongs to one log. .. A credential .. that was made for the log before, opens nothing. ..
-- a version is raised before a log changes hands":
-- where two granted uses c and d name one object and one version, it was the same log from c to d. So
-- "an expiry, a version change and a late frame between two parts of one read" end in a refusal.
-- Of a log that both reach through a group, this holds where the file manager did its part
pub record OneLog (M : ℕ) (l : Ledger) (calls : List Fed) : Type 0 where
  -- no grant between them raised, deleted or created that object: one creation of it, in one version
  pub unbroken : (before between later : List Fed) (c d e : Fed) (p n v : ℕ)
      → calls ≡ before ++ (c ∷ (between ++ (d ∷ later)))
      → Uses p n v c
      → Uses p n v d
      → Memᴰ e between
      → Renews p n e → ⊥
  -- every use granted between them whose credential names it was under that same version
  pub same : (before between later : List Fed) (c d e : Fed) (p n v u : ℕ)
      → calls ≡ before ++ (c ∷ (between ++ (d ∷ later)))
      → Uses p n v c
      → Uses p n v d
      → Memᴰ e between
      → Uses p n u e
      → u ≡ v
  -- where it is the log itself that they reach, the bytes that d finds are those that c found, changed by the granted writes to
  -- it and by nothing else
  pub bytes : (before between later : List Fed) (c d : Fed) (p n v : ℕ)
      → calls ≡ before ++ (c ∷ (between ++ (d ∷ later)))
      → Uses p n v c
      → Uses p n v d
      → reached c ≡ n
      → reached d ≡ n
      → bytes_of (ledger M l (before ++ (c ∷ between))) (fed_fields d)
      ≡ rewritten p n (c ∷ between) (bytes_of (ledger M l before) (fed_fields c))
  -- of a member k of the group n: where it was renewed only together with the group, it was not renewed at all
  pub member : (before between later : List Fed) (c d e : Fed) (p n k v : ℕ)
      → calls ≡ before ++ (c ∷ (between ++ (d ∷ later)))
      → Uses p n v c
      → Uses p n v d
      → Together p n k between
      → Memᴰ e between
      → Renews p k e → ⊥
  -- and the bytes of it that d finds are those that c found, changed by the granted writes to it, through whatever credential, and
  -- by nothing else
  pub member_bytes : (before between later : List Fed) (c d : Fed) (p n k v : ℕ)
      → calls ≡ before ++ (c ∷ (between ++ (d ∷ later)))
      → Uses p n v c
      → Uses p n v d
      → Together p n k between
      → reached c ≡ k
      → reached d ≡ k
      → bytes_of (ledger M l (before ++ (c ∷ between))) (fed_fields d)
      ≡ rewritten p k (c ∷ between) (bytes_of (ledger M l before) (fed_fields c))

-- ---- "A credential that has run out, or that was made for the log before, opens nothing."
-- c's credential is for object n of partition p in version v, and its request is one of operations 1 to 6, granted or not
pub record Carries (p n v : ℕ) (c : Fed) : Type 0 where
  pub operation : (fed_fields c).req.operation ≤ 6
  pub partition : (fed_fields c).cred.partition ≡ p
  pub object : (fed_fields c).cred.object ≡ n
  pub version : (fed_fields c).cred.version ≡ v

pub record OpensNothing (M : ℕ) (l : Ledger) (calls : List Fed) : Type 0 where
  -- "made for the log before": object n had version v; since then a grant c raised, deleted or created it; then no call d
  -- that carries v is granted, whether or not it ever was before
  pub old : (before between later : List Fed) (c d : Fed) (p n v : ℕ)
      → calls ≡ before ++ (between ++ (d ∷ later))
      → version_of (ledger M l before) p n ≡ some v
      → Memᴰ c between
      → Renews p n c
      → Carries p n v d
      → d.row ≡ 0 → ⊥
  -- nor is one that carries any version which its partition had given before c
  pub older : (before between later : List Fed) (c d : Fed) (p n v : ℕ)
      → calls ≡ before ++ (c ∷ (between ++ (d ∷ later)))
      → v ≤ last_of (ledger M l before) p
      → Renews p n c
      → Carries p n v d
      → d.row ≡ 0 → ⊥
  -- a credential for the group n, "made for the log before" in it: since the group had version v, a grant c raised, deleted or
  -- created its member k, and the file manager did its part; then no call d that carries the group's version v is granted
  pub member : (before between later : List Fed) (c d : Fed) (p n k v : ℕ)
      → calls ≡ before ++ (between ++ (d ∷ later))
      → version_of (ledger M l before) p n ≡ some v
      → Together p n k between
      → Memᴰ c between
      → Renews p k c
      → Carries p n v d
      → d.row ≡ 0 → ⊥
  -- "that has run out": from a call c on, granted or not, whose clock reading is over the expiry of d's credential, d is
  -- not granted, be it c itself or a later one
  pub run_out : (before later : List Fed) (c d : Fed)
      → calls ≡ before ++ (c ∷ later)
      → Memᴰ d (c ∷ later)
      → (fed_fields d).cred.expiry < c.clock
      → d.row ≡ 0 → ⊥

-- each of these, for every format that returned row 0 and every list of calls
abbrev pub OfEveryList : (ℕ → Ledger → List Fed → Type 0) → Type 0
OfEveryList Claim =
    (medium : List ℕ) (F : ℕ) (master drive : List ℕ) (calls : List Call)
    → (format medium F master drive).row ≡ 0
    → Claim (length medium) (ledger_start F master drive)
    (fed (record { drive = (format medium F master drive).drive; medium = (format medium F master drive).medium })
    calls)
