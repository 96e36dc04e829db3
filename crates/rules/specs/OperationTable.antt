-- Document 02, change 5, of calls: what a partition's operation table decides, and which calls move it. The table itself
-- is in Needs.antt, the rows in Rows.antt. Proved in proofs/: `as_before`, `eight_as_seven`, `every_right`, `good_asks`,
-- `table_moves`, `good_reached`.
-- d: a drive. m: a medium. c: a call, or the numbers of a credential; r: of a request. s: a scope. k: a bit's number.
use Rattle.std.specs.Prelude.{◌≡◌, ◌↔◌, ◌&&◌, ◌||◌, Bool, false, not, true, List, ◌-◌, ◌<◌, ◌≤◌, ℕ, length}
use Rattle.lemmas.specs.Tests.{◌is◌, ◌under◌}
use Rattle.rules.specs.declared.Credential.{Credential}
use Rattle.rules.specs.declared.Need.{Need}
use Rattle.rules.specs.declared.Object.{Object}
use Rattle.rules.specs.declared.Operation.TheVariants.{LoadTable}
use Rattle.rules.specs.declared.Request.{Request}
use Rattle.rules.specs.Demands.{after, call_fields, call_operation}
use Rattle.rules.specs.Drive.{Drive, format, partition_at}
use Rattle.rules.specs.Frame.{bit}
use Rattle.rules.specs.Gate.{Call, gate}
use Rattle.rules.specs.Needs.{default_need, default_needs, good_needs, needs_at}
use Rattle.rules.specs.Rows.{lacks_right, low_level, need_of, row13, row7}
use Rattle.rules.specs.Scope.{Scope}

-- ---- document 01's rule
-- 7. "The level is under the credential's least, or is 0 with operation 7."
abbrev pub row7_before : Credential → Request → Bool
row7_before c r = r.level under c.least || (r.level is 0 && r.operation is 7)

-- 13. "The right is missing." "Operation k needs rights bit k − 1"
abbrev pub row13_before : Credential → Request → Bool
row13_before c r = not (bit (r.operation - 1) c.rights)

-- rows 7 and 13 by a need are those
pub record AsBefore (n : Need) (c : Credential) (r : Request) : Type 0 where
  pub level : low_level n c r ≡ row7_before c r
  pub right : lacks_right n c ≡ row13_before c r

-- "document 01's rule": of operations 1 to 7 at both ends; of a drive where the table "starts .. as document 01's rule";
-- and of "Frames under slots 3 and 4", whatever their partition's table is
pub record Document01 (c : Credential) (r : Request) : Type 0 where
  pub rule : AsBefore (default_need r.operation) c r
  pub start : (s : Scope Object) → s.partition.needs ≡ default_needs → AsBefore (need_of s c r) c r
  pub above : (s : Scope Object) → 2 < c.slot → AsBefore (need_of s c r) c r

abbrev pub RuleOfDocument01 : Type 0
RuleOfDocument01 = (c : Credential) (r : Request) → 1 ≤ r.operation → r.operation ≤ 7 → Document01 c r

-- "operation 8 treated as 7", whatever the table is: level at least 1, rights bit 6
pub record AsSeven (s : Scope Object) (c : Credential) (r : Request) : Type 0 where
  pub level : row7 s c r ≡ (r.level under c.least || r.level is 0)
  pub right : row13 s c r ≡ not (bit 6 c.rights)

abbrev pub EightAsSeven : Type 0
EightAsSeven = (s : Scope Object) (c : Credential) (r : Request) → r.operation ≡ 8 → AsSeven s c r

-- ---- "every right in the mask being needed"
abbrev pub EveryRight : Type 0
EveryRight =
    (s : Scope Object) (c : Credential) (r : Request)
    → (row13 s c r ≡ false) ↔ ((k : ℕ) → bit k (need_of s c r).mask ≡ true → bit k c.rights ≡ true)

-- ---- what rows 7 and 13 ask where the table is good
pub record GoodRows (s : Scope Object) (c : Credential) (r : Request) : Type 0 where
  -- "every mask nonzero within bits 0 to 6": a right always, and none that no credential has
  pub some : c.rights ≡ 0 → row13 s c r ≡ true
  pub all : c.rights ≡ 127 → row13 s c r ≡ false
  -- "levels at most 2": none that no request has;
  pub level : c.least ≤ 2 → r.level ≡ 2 → row7 s c r ≡ false
  -- "and at least 1 for operation 7": no key is set at level 0
  pub keys : r.operation ≡ 7 → r.level ≡ 0 → row7 s c r ≡ true

abbrev pub GoodAsks : Type 0
GoodAsks = (s : Scope Object) (c : Credential) (r : Request) → good_needs s.partition.needs ≡ true → GoodRows s c r

-- ---- one call, put to any drive: which tables it moves
-- the operation table of partition p
abbrev pub table_of : Drive → ℕ → List Need
table_of d p = (partition_at d.tables p).needs

-- the partition that a call's frame names
abbrev pub partition_number : Call → ℕ
partition_number c = (call_fields c).cred.partition

pub record TableMoves (d : Drive) (m : List ℕ) (c : Call) : Type 0 where
  -- a granted operation 8 loads its data, which is a good table
  pub loads : (gate d m c).row ≡ 0 → call_operation c ≡ LoadTable
      → (table_of (gate d m c).drive (partition_number c) ≡ needs_at (call_fields c).payload)
      × (good_needs (needs_at (call_fields c).payload) ≡ true)
  -- it changes no other partition's table,
  pub others : (p : ℕ) → (p ≡ partition_number c → ⊥) → table_of (gate d m c).drive p ≡ table_of d p
  -- and any other call changes none
  pub stays : ((gate d m c).row ≡ 0 → call_operation c ≡ LoadTable → ⊥) → (p : ℕ) → table_of (gate d m c).drive p ≡ table_of d p

abbrev pub AllTableMoves : Type 0
AllTableMoves = (d : Drive) (m : List ℕ) (c : Call) → length d.tables.partitions ≡ 4 → TableMoves d m c

-- ---- a list of calls: every table that it reaches from a format, refused or not, is good
abbrev pub GoodReached : Type 0
GoodReached =
    (medium : List ℕ) (F : ℕ) (master drive : List ℕ) (calls : List Call) (p : ℕ)
    → good_needs (table_of (after (record {
      drive = (format medium F master drive).drive;
      medium = (format medium F master drive).medium;
    }) calls).drive p) ≡ true
