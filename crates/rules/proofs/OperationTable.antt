-- Document 02, change 5: row 13 asks for every right in the mask (`every_right`); the first table gives document 01's rows
-- 7 and 13 (`as_before`; `eight_as_seven` for operation 8); what a good table asks is a right and can be met
-- (`good_asks`); a call moves one table or none, by loading a good one (`table_moves`), so that every table that a list of
-- calls reaches from a format is good (`good_reached`).
use mathlib.Core.Path.{◌∙◌, ◌≡◌, ap, refl, subst, sym}
use mathlib.Core.Logic.{◌⊎◌, inl, inr, ⊎_elim}
use mathlib.Core.Bool.{◌&&◌, ◌||◌, and-false, and-true, Bool, cond, false, not, true}
use mathlib.Core.List.{[], ◌∷◌, List}
use Prim.Native.Nat.{◌%◌, ◌*◌, ◌-◌, ◌/◌, ◌<◌, ◌^◌, ◌≤◌, min, suc, zero, ℕ}
use native.Mathlib.Decide.{ℕ_discrete}
use native.Mathlib.Omega.{arith}
use lib.Bits.{and_le_r, and_mask, bit_and}
use lib.Dec.{leb}
use lib.ListN.{get_or, replicate}
use lib.Pow.{pow_mono, pow_pos}
use borrow.Author.Tests.{eq-eqb, eqb-true, le-leb, le-ltb, leb-true, lt-ltb, ne_eqb, not-false}
use Rattle.lemmas.specs.Bits.{and_all, and-bit, and-each}
use Rattle.lemmas.specs.ListLaws.{every_nth}
use Rattle.lemmas.specs.Lists.{every}
use Rattle.lemmas.specs.RowTable.{first_row, Row}
use Rattle.lemmas.specs.Tests.{◌is◌, ◌under◌, and_l, and_r, and_rest_false, both, by_branches, neither, or_intro_r}
use Rattle.rules.specs.declared.Credential.{Credential}
use Rattle.rules.specs.declared.Need.{Need}
use Rattle.rules.specs.declared.Object.{Object}
use Rattle.rules.specs.declared.Operation.{Operation}
use Rattle.rules.specs.declared.Operation.TheVariants.{Create, Delete, LoadTable, Look, Raise, Read, SetKey, Write}
use Rattle.rules.specs.declared.Request.{Request}
use Rattle.rules.specs.Demands.{after, answer, call_fields, call_operation, State, step}
use Rattle.rules.specs.Drive.{
  Drive,
  empty_partition,
  format,
  format_rows,
  Formatted,
  Partition,
  partition_at,
  refresh,
  Tables,
}
use Rattle.rules.specs.Frame.{bit, Fields, fields, operation_of}
use Rattle.rules.specs.Gate.{Answer, Call, gate, granted}
use Rattle.rules.specs.Needs.{default_need, default_needs, good_need, good_needs, needs_at, need_under, table_need}
use Rattle.rules.specs.Operations.{created, deleted, perform, raised}
use Rattle.rules.specs.OperationTable.{
  AllTableMoves,
  AsBefore,
  EightAsSeven,
  EveryRight,
  GoodAsks,
  GoodReached,
  partition_number,
  RuleOfDocument01,
  table_of,
}
use Rattle.rules.specs.Rows.{lacks_right, low_level, need_of, row13, row31, row7, rows}
use Rattle.rules.specs.Scope.{drive_scope, Scope, with_scope}
use Rattle.rules.proofs.Answers.{gate-granted, gate-refused, gate-row}
use Rattle.rules.proofs.Clear.{asks_for, Clear, clear31, cleared, in_four}
use Rattle.rules.proofs.Sound.{with_scope_either, with_scope_here}

-- ---- row 13 by any mask
pub every_right : EveryRight
unfolding row13
every_right s c r =
    let mask : ℕ = (need_of s c r).mask in
    let kept : ℕ = bit_and mask c.rights in (
      λ e k h. eq-eqb _ 1 (and-each mask c.rights (eqb-true kept mask (not-false _ e)) k (eqb-true _ 1 h)),
      λ f. ap not (eq-eqb kept mask (and_all mask c.rights (λ k h. eqb-true _ 1 (f k (eq-eqb _ 1 h))))),
    )

-- a credential with every right lacks none of a mask within bits 0 to 6
pub all_rights : (n : Need) (c : Credential) → n.mask < 128 → c.rights ≡ 127 → lacks_right n c ≡ false
all_rights n c h f =
    let e : bit_and n.mask 127 ≡ n.mask = and_mask n.mask 7 ∙ omega arith in
    rw (f, eq-eqb (bit_and n.mask 127) n.mask e) refl

-- ---- where no table counts: slots 3 and 4, operation 8
above-two : (s : Scope Object) (c : Credential) (r : Request) → 2 < c.slot → need_of s c r ≡ default_need r.operation
unfolding need_of need_under
above-two s c r h =
    ap (λ (b : Bool). cond (b && r.operation under 8) (table_need s.partition.needs r.operation) (default_need r.operation))
    (le-ltb c.slot 3 h)

of_eight : (s : Scope Object) (c : Credential) (r : Request) → r.operation ≡ 8 → need_of s c r ≡ default_need 8
unfolding need_of need_under
of_eight s c r e =
    ap (need_under s.partition.needs c.slot) e
    ∙ ap (λ (b : Bool). cond b (table_need s.partition.needs 8) (default_need 8)) (and-false (c.slot under 3))

-- ---- document 01's rule of any operation k: row 13 by one bit
-- a bit times a number from 1 is that number exactly where the bit is 1
bit-times : (b m : ℕ) → b < 2 → 1 ≤ m → (b * m is m) ≡ (b is 1)
bit-times zero m h l = ne_eqb (0 * m) m (λ e. omega arith)
bit-times (suc zero) m h l = eq-eqb (1 * m) m (omega arith)
bit-times (suc (suc b)) m h l = absurd (omega arith)

right_of : (k : ℕ) (c : Credential) → lacks_right (default_need k) c ≡ not (bit (min k 7 - 1) c.rights)
right_of k c =
    let j : ℕ = min k 7 - 1 in
    ap (λ (n : ℕ). not (n is 2 ^ j)) (and-bit j c.rights)
    ∙ ap not (bit-times (c.rights / 2 ^ j % 2) (2 ^ j) (omega arith) (pow_pos j))

-- and row 7 by level 0
level_under : (n : ℕ) (b : Bool) → (n under cond b 0 1) ≡ (n is 0 && not b)
level_under zero true = refl
level_under zero false = refl
level_under (suc n) true = rw (le-ltb (suc n) 0 (omega arith), ne_eqb (suc n) 0 (λ e. omega arith)) refl
level_under (suc n) false = rw (le-ltb (suc n) 1 (omega arith), ne_eqb (suc n) 0 (λ e. omega arith)) refl

level_of : (k : ℕ) (c : Credential) (r : Request)
    → low_level (default_need k) c r ≡ (r.level under c.least || (r.level is 0 && not (k under 7)))
level_of k c r = ap (λ (b : Bool). r.level under c.least || b) (level_under r.level (k under 7))

-- ---- operations 1 to 7
is_seven : (k : ℕ) → k ≤ 7 → not (k under 7) ≡ (k is 7)
is_seven k h = go (ℕ_discrete k 7)
  where
    go : Dec (k ≡ 7) → not (k under 7) ≡ (k is 7)
    go (yes e) = rw e refl
    go (no e) = rw (lt-ltb k 7 (omega arith), ne_eqb k 7 e) refl

rule_before : (c : Credential) (r : Request) → r.operation ≤ 7 → AsBefore (default_need r.operation) c r
rule_before c r h = record {
  level =
      level_of r.operation c r
      ∙ ap (λ (b : Bool). r.level under c.least || (r.level is 0 && b)) (is_seven r.operation h);
  right =
      let e : min r.operation 7 - 1 ≡ r.operation - 1 = omega arith in
      right_of r.operation c ∙ ap (λ (k : ℕ). not (bit k c.rights)) e;
}

-- a partition's table starts as that rule
starts : (k slot : ℕ) → 1 ≤ k → need_under default_needs slot k ≡ default_need k
unfolding need_under default_needs
starts k slot h =
    let e : suc (k - 1) ≡ k = omega arith in
    by_branches (λ (n : Need). n ≡ default_need k) (slot under 3 && k under 8)
    (subst (λ (i : ℕ). get_or default_needs (k - 1) (default_need i) ≡ default_need i) e (there (k - 1))) refl
  where
    there : (j : ℕ) → get_or default_needs j (default_need (suc j)) ≡ default_need (suc j)
    there zero = refl
    there (suc zero) = refl
    there (suc (suc zero)) = refl
    there (suc (suc (suc zero))) = refl
    there (suc (suc (suc (suc zero)))) = refl
    there (suc (suc (suc (suc (suc zero))))) = refl
    there (suc (suc (suc (suc (suc (suc zero)))))) = refl
    there (suc (suc (suc (suc (suc (suc (suc j))))))) = refl

pub as_before : RuleOfDocument01
unfolding need_of
as_before c r low high = record {
  rule = rule_before c r high;
  start = λ s e.
      there (ap (λ (l : List Need). need_under l c.slot r.operation) e ∙ starts r.operation c.slot low);
  above = λ s h. there (above-two s c r h);
}
  where
    there : {n : Need} → n ≡ default_need r.operation → AsBefore n c r
    there e = subst (λ (n : Need). AsBefore n c r) (sym e) (rule_before c r high)

-- ---- operation 8
pub eight_as_seven : EightAsSeven
unfolding row7 row13
eight_as_seven s c r e = record {
  level =
      ap (λ (n : Need). low_level n c r) (of_eight s c r e)
      ∙ level_of 8 c r
      ∙ ap (λ (b : Bool). r.level under c.least || b) (and-true (r.level is 0));
  right = ap (λ (n : Need). lacks_right n c) (of_eight s c r e) ∙ right_of 8 c;
}

-- ---- a good table
default_good : (k : ℕ) → good_need (default_need k) ≡ true
default_good k =
    let j : ℕ = min k 7 - 1 in
    let h : 2 ^ j ≤ 2 ^ 6 = pow_mono {i = j} {j = 6} (omega arith) in
    both (both (le-leb 1 (2 ^ j) (pow_pos j)) (le-leb (2 ^ j) 127 (omega arith)))
    (by_branches (λ (n : ℕ). leb n 2 ≡ true) (k under 7) refl refl)

module _ (s : Scope Object) (h : good_needs s.partition.needs ≡ true) where
  good_need_lem : (c : Credential) (r : Request) → good_need (need_of s c r) ≡ true
  unfolding need_of need_under good_needs
  good_need_lem c r =
      by_branches (λ (n : Need). good_need n ≡ true) (c.slot under 3 && r.operation under 8)
      (every_nth good_need s.partition.needs (r.operation - 1) (default_need r.operation)
      (default_good r.operation) (search (and_l, and_r)))
      (default_good r.operation)

  keys-need : (c : Credential) (r : Request) → r.operation ≡ 7 → 1 ≤ (need_of s c r).least
  unfolding need_of need_under good_needs
  keys-need c r e =
      subst (λ (k : ℕ). 1 ≤ (need_under s.partition.needs c.slot k).least) (sym e)
      (by_branches (λ (n : Need). 1 ≤ n.least) (c.slot under 3 && 7 under 8)
      (leb-true 1 (table_need s.partition.needs 7).least (search (and_l, and_r))) (omega arith))

pub good_asks : GoodAsks
unfolding row7 row13
good_asks s c r h = record {
  some = λ e. ap not (ne_eqb (bit_and mask c.rights) mask (λ z. omega (arith, low, and_le_r mask c.rights)));
  all = all_rights (need_of s c r) c (omega (arith, high));
  level = λ l e. neither (le-ltb r.level c.least (omega arith)) (le-ltb r.level least (omega (arith, two)));
  keys = λ o e. or_intro_r (r.level under c.least) (r.level under least)
      (lt-ltb r.level least (omega (arith, keys-need s h c r o)));
}
  where
    mask : ℕ
    mask = (need_of s c r).mask

    least : ℕ
    least = (need_of s c r).least

    it : good_need (need_of s c r) ≡ true
    it = good_need_lem s h c r

    low : 1 ≤ mask
    low = leb-true 1 mask (search (and_l, and_r, it))

    high : mask ≤ 127
    high = leb-true mask 127 (search (and_l, and_r, it))

    two : least ≤ 2
    two = leb-true least 2 (search (and_l, and_r, it))

-- ---- one call
-- an operation leaves its partition's table, or is the one that loads it
needs_after : (o : Operation) (s : Scope Object) (x : Fields) (m : List ℕ)
    → (o ≡ LoadTable) ⊎ ((perform o s x m).scope.partition.needs ≡ s.partition.needs)
unfolding perform raised created deleted
needs_after (Read a b) s x m = inr refl
needs_after (Write a b) s x m = inr refl
needs_after Look s x m = inr refl
needs_after Raise s x m = inr refl
needs_after (Create a b) s x m = inr refl
needs_after Delete s x m = inr refl
needs_after (SetKey a) s x m = inr refl
needs_after LoadTable s x m = inl refl

-- row 31
loads_good : {f : List ℕ} {s : Scope Object} {m space : List ℕ} → Clear f s m space → operation_of (fields f) ≡ LoadTable
    → good_needs (needs_at (fields f).payload) ≡ true
unfolding row31
loads_good {f = f} g o =
    not-false (good_needs (needs_at (fields f).payload))
    (and_rest_false ((fields f).req.operation is 8) (not (good_needs (needs_at (fields f).payload)))
    (eq-eqb (fields f).req.operation 8 (asks_for (fields f).req LoadTable o)) (clear31 g))

module _ (d : Drive) (m : List ℕ) (c : Call) where
  abbrev table : List Row
  table = rows d m c.frame c.clock c.space

  abbrev x : Fields
  x = fields c.frame

  abbrev fresh : Drive
  fresh = refresh c.clock d

  -- the scope that its operation leaves, and the tables with it
  abbrev done : Scope Object
  done = (perform (operation_of x) (drive_scope fresh x.cred) x m).scope

  abbrev left : Tables Object
  left = with_scope x.cred done fresh.tables

  by_grant : first_row table ≡ 0 → (p : ℕ) → table_of (gate d m c).drive p ≡ (partition_at left p).needs
  unfolding granted
  by_grant g p = ap (λ (a : Answer Drive). table_of a.drive p) (gate-granted d m c g)

  by_load : call_operation c ≡ LoadTable → done.partition.needs ≡ needs_at x.payload
  unfolding perform
  by_load o = ap (λ (w : Operation). (perform w (drive_scope fresh x.cred) x m).scope.partition.needs) o

  is_good : first_row table ≡ 0 → call_operation c ≡ LoadTable → good_needs (needs_at x.payload) ≡ true
  is_good g o = loads_good (cleared d m c.frame c.clock c.space g) o

  -- the table of partition p is as it was, or p is the call's own partition and a granted operation 8 has loaded it
  abbrev Stays : ℕ → Type 0
  Stays p = table_of (gate d m c).drive p ≡ table_of d p

  record Loaded (p : ℕ) : Type 0 where
    row : first_row table ≡ 0
    operation : call_operation c ≡ LoadTable
    partition : p ≡ partition_number c
    needs : table_of (gate d m c).drive p ≡ needs_at x.payload

  loads-or-stays : (p : ℕ) → Loaded p ⊎ Stays p
  unfolding refresh
  loads-or-stays p = go (ℕ_discrete (first_row table) 0)
    where
      own : first_row table ≡ 0 → p ≡ partition_number c → partition_at left p ≡ done.partition → Loaded p ⊎ Stays p
      own g e h =
          let k : table_of (gate d m c).drive p ≡ done.partition.needs = by_grant g p ∙ ap Partition.needs h in
          ⊎_elim
          (λ o. inl (record { row = g; operation = o; partition = e; needs = k ∙ by_load o }))
          (λ n. inr (k ∙ n ∙ ap (table_of d) (sym e)))
          (needs_after (operation_of x) (drive_scope fresh x.cred) x m)

      go : Dec (first_row table ≡ 0) → Loaded p ⊎ Stays p
      go (yes g) = ⊎_elim (λ h. own g h.0 h.1) (λ h. inr (by_grant g p ∙ ap Partition.needs h))
          (with_scope_either x.cred done fresh.tables p)
      go (no g) = inr (ap (λ (a : Answer Drive). table_of a.drive p) (gate-refused d m c g)
          ∙ by_branches (λ (e : Drive). table_of e p ≡ table_of d p) (first_row table is 1) refl refl)

  stays_unless : (p : ℕ) → (Loaded p → ⊥) → Stays p
  stays_unless p ne = ⊎_elim (λ l. absurd (ne l)) (λ e. e) (loads-or-stays p)

pub table_moves : AllTableMoves
unfolding refresh
table_moves d m c four = record {
  loads = λ e o. loads (sym (gate-row d m c) ∙ e) o;
  others = λ p ne. stays_unless d m c p (λ l. ne l.partition);
  stays = λ ne p. stays_unless d m c p (λ l. ne (gate-row d m c ∙ l.row) l.operation);
}
  where
    loads : first_row (table d m c) ≡ 0 → call_operation c ≡ LoadTable
        → (table_of (gate d m c).drive (partition_number c) ≡ needs_at (call_fields c).payload)
        × (good_needs (needs_at (call_fields c).payload) ≡ true)
    loads g o = (
      by_grant d m c g (partition_number c)
          ∙ ap Partition.needs (with_scope_here (call_fields c).cred (done d m c) (fresh d m c).tables
          (omega (arith, four, in_four (cleared d m c.frame c.clock c.space g))))
          ∙ by_load d m c o,
      is_good d m c g o,
    )

-- ---- a list of calls
abbrev AllGood : Drive → Type 0
AllGood d = (p : ℕ) → good_needs (table_of d p) ≡ true

gate_good : (d : Drive) (m : List ℕ) (c : Call) → AllGood d → AllGood (gate d m c).drive
gate_good d m c h p =
    ⊎_elim (λ l. ap good_needs l.needs ∙ is_good d m c l.row l.operation) (λ e. ap good_needs e ∙ h p)
    (loads-or-stays d m c p)

calls_good : (s : State) (calls : List Call) → AllGood s.drive → AllGood (after s calls).drive
unfolding after step answer
calls_good s [] h = h
calls_good s (c ∷ cs) h = calls_good (step s c) cs (gate_good s.drive s.medium c h)

-- document 01's rule is a good table
abbrev good_in : Partition Object → Bool
good_in q = good_needs q.needs

unused_good : (F p : ℕ) → good_in (get_or (replicate 4 (empty_partition F)) p (empty_partition 0)) ≡ true
unfolding good_needs default_needs every
unused_good F p = every_nth good_in (replicate 4 (empty_partition F)) p (empty_partition 0) refl refl

format_good : (medium : List ℕ) (F : ℕ) (master drive : List ℕ) → AllGood (format medium F master drive).drive
unfolding format
format_good medium F master drive p =
    by_branches (λ (f : Formatted). good_needs (table_of f.drive p) ≡ true)
    (first_row (format_rows medium F master drive) is 0) (unused_good F p) (unused_good 0 p)

pub good_reached : GoodReached
good_reached medium F master drive calls p = calls_good _ calls (format_good medium F master drive) p
