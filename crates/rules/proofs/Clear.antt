-- What is known of a frame that no row refuses (`Clear`), up to what a grant needs (`grant`).
use mathlib.Core.Path.{◌∙◌, ◌≡◌, ap, refl, subst, sym}
use mathlib.Core.Logic.{◌⊎◌, inl, inr}
use mathlib.Core.Bool.{◌&&◌, ◌||◌, Bool, cond, false, not, true, true≢false}
use mathlib.Core.List.{[], ◌∷◌, List, Memᴰ}
use Prim.Native.Nat.{◌+◌, ◌<◌, ◌≤◌, suc, zero, ℕ}
use native.Mathlib.Omega.{arith}
use lib.Dec.{leb}
use lib.ListN.{get_or, length}
use borrow.Author.Tests.{eq-eqb, eqb-false, eqb-true, leb-true, lt-ltb, ltb-false, ne_eqb, not-false}
use Rattle.lemmas.specs.ListLaws.{not_found}
use Rattle.lemmas.specs.Lists.{every, find, missing}
use Rattle.lemmas.specs.Parts.{length_part}
use Rattle.lemmas.specs.RowTable.{applies, first_row, line, none_applies, Row, rows_zero}
use Rattle.lemmas.specs.Tests.{◌is◌, ◌isnt◌, ◌over◌, ◌under◌, and_l, and_r, and_rest_false, bool_cases, none_of, or_intro_l, or_l, or_r}
use Rattle.rules.specs.declared.Credential.{Credential}
use Rattle.rules.specs.declared.Object.{Object}
use Rattle.rules.specs.declared.Request.{Request}
use Rattle.rules.specs.BestFit.{extent_step}
use Rattle.rules.specs.Drive.{Drive, refresh, sound}
use Rattle.rules.specs.declared.Operation.{Operation}
use Rattle.rules.specs.declared.Operation.TheVariants.{Create, Delete, LoadTable, Look, Raise, Read, SetKey, Write}
use Rattle.rules.specs.Frame.{
  Fields,
  fields,
  frame_length,
  is_group_credential,
  is_group_request,
  memory_index,
  operation,
  operation_of,
  operations,
  part_starts,
  request_start,
  target_of,
}
use Rattle.rules.specs.Operations.{named_object, object_of, placement, present_version, placement_start}
use Rattle.rules.specs.Rows.{bounds, credential_faults, data_length, drive_rows, frame_rows, group_bytes, is_transfer, misfits, outside_credential, outside_request, request_faults, row1, row10, row11, row12, row13, row14, row15, row16, row17, row18, row19, row20, row21, row22, row23, row31, row32, row33, row34, row4, row5, row6, row7, row8, row9, rows, scope_rows, wrong_data}
use Rattle.rules.specs.Scope.{Scope, drive_scope}
use Rattle.rules.proofs.Holds.{CanWrite, Grant}
use Rattle.rules.proofs.Placing.{placed}
use Rattle.rules.proofs.Sound.{CanCreate, member-sound, partition_is, SoundPartition, SoundScope}

-- ---- a frame that row 4 does not refuse: its partition is one of the four, its memory one of the five
module _ (x : Fields) (clear4 : row4 x.cred x.req ≡ false) where
  pub low_partition : x.cred.partition < 4
  low_partition = omega (
    arith,
    ltb-false 3 x.cred.partition
        (none_of (credential_faults x.cred) (or_l (outside_credential x.cred) (outside_request x.req) clear4) 0),
  )

  pub low_memory : memory_index x.cred < 5
  unfolding memory_index
  low_memory = go (x.cred.slot under 3)
    where
      go : (b : Bool) → cond b x.cred.partition 4 < 5
      go true = omega (arith, low_partition)
      go false = omega arith

-- ---- whose bytes a frame reaches
pub target-member : (c : Credential) (r : Request) → is_group_request r ≡ true → target_of c r ≡ r.member
unfolding target_of
target-member c r e = rw e refl

pub target-object : (c : Credential) (r : Request) → is_group_request r ≡ false → target_of c r ≡ c.object
unfolding target_of
target-object c r e = rw e refl

-- ---- what a request asks for: the number and the arguments of its operation
abbrev pub Asks : Request → Operation → Type 0
Asks r (Read a b) = (r.operation ≡ 1) × (r.A ≡ a) × (r.B ≡ b)
Asks r (Write a b) = (r.operation ≡ 2) × (r.A ≡ a) × (r.B ≡ b)
-- (a byte outside 1 to 8 is read as one)
Asks r Look = 1 ≤ r.operation → r.operation ≤ 8 → r.operation ≡ 3
Asks r Raise = r.operation ≡ 4
Asks r (Create a b) = (r.operation ≡ 5) × (r.A ≡ a) × (r.B ≡ b)
Asks r Delete = r.operation ≡ 6
Asks r (SetKey a) = (r.operation ≡ 7) × (r.A ≡ a)
Asks r LoadTable = r.operation ≡ 8

pub asks_for : (r : Request) (o : Operation) → operation r ≡ o → Asks r o
unfolding operation
asks_for r o e = subst (Asks r) e (go r.operation refl)
  where
    go : (k : ℕ) → r.operation ≡ k → Asks r (get_or (Look ∷ operations r) k Look)
    go zero h = λ i j. absurd (omega arith)
    go (suc zero) h = (h, refl, refl)
    go (suc (suc zero)) h = (h, refl, refl)
    go (suc (suc (suc zero))) h = λ i j. h
    go (suc (suc (suc (suc zero)))) h = h
    go (suc (suc (suc (suc (suc zero))))) h = (h, refl, refl)
    go (suc (suc (suc (suc (suc (suc zero)))))) h = h
    go (suc (suc (suc (suc (suc (suc (suc zero))))))) h = (h, refl)
    go (suc (suc (suc (suc (suc (suc (suc (suc zero)))))))) h = h
    go (suc (suc (suc (suc (suc (suc (suc (suc (suc k))))))))) h = λ i j. absurd (omega arith)

-- ---- a frame that no row refuses: rows 2 to 6 by its own bytes, the others by what it sees of a drive
pub record Clear (f : List ℕ) (s : Scope Object) (m space : List ℕ) : Type 0 where
  pub frame : first_row (frame_rows f (fields f)) ≡ 0
  pub drive : first_row (drive_rows s m (fields f) space) ≡ 0

pub ready_sound : (d : Drive) (m : List ℕ) → row1 d m ≡ false → sound d ≡ true
unfolding row1
ready_sound d m h = not-false (sound d) (or_l (not (sound d)) (length m isnt d.size) h)

module _ (d : Drive) (m f : List ℕ) (clock : ℕ) (space : List ℕ) (g : first_row (rows d m f clock space) ≡ 0) where
  pub cleared : Clear f (drive_scope (refresh clock d) (fields f).cred) m space
  unfolding rows frame_rows every
  cleared =
      let later : List Row = drive_rows (drive_scope (refresh clock d) (fields f).cred) m (fields f) space in
      let z = rows_zero (line 1 (row1 d m) ∷ frame_rows f (fields f)) later refl g in
      record {
        frame = (rows_zero (line 1 (row1 d m) ∷ []) (frame_rows f (fields f)) refl z.0).1;
        drive = z.1;
      }

  clear1 : row1 d m ≡ false
  unfolding rows frame_rows drive_rows scope_rows every applies
  clear1 = none_applies (rows d m f clock space) refl g 1

  pub is_sound : sound d ≡ true
  is_sound = ready_sound d m clear1

  pub size_is : length m ≡ d.size
  unfolding row1
  size_is = eqb-true (length m) d.size (not-false (length m is d.size)
      (or_r (not (sound d)) (length m isnt d.size) clear1))

module _ {f : List ℕ} {s : Scope Object} {m space : List ℕ} (g : Clear f s m space) where
  abbrev x : Fields
  x = fields f

  by_frame : (n : ℕ) → applies n (frame_rows f x) ≡ false
  unfolding frame_rows every
  by_frame n = none_applies (frame_rows f x) refl g.frame n

  by_drive : (n : ℕ) → applies n (drive_rows s m x space) ≡ false
  unfolding drive_rows scope_rows every
  by_drive n = none_applies (drive_rows s m x space) refl g.drive n

  clear4 : row4 x.cred x.req ≡ false
  unfolding frame_rows applies
  clear4 = by_frame 4

  clear5 : row5 x.req f ≡ false
  unfolding frame_rows applies
  clear5 = by_frame 5

  clear6 : row6 x.cred x.req ≡ false
  unfolding frame_rows applies
  clear6 = by_frame 6

  pub clear11 : row11 s x.req ≡ false
  unfolding drive_rows scope_rows applies
  clear11 = by_drive 11

  pub clear12 : row12 s x.cred x.req ≡ false
  unfolding drive_rows scope_rows applies
  clear12 = by_drive 12

  pub clear21 : row21 s x.req ≡ false
  unfolding drive_rows scope_rows applies
  clear21 = by_drive 21

  pub clear22 : row22 s ≡ false
  unfolding drive_rows scope_rows applies
  clear22 = by_drive 22

  pub clear31 : row31 x.req x.payload ≡ false
  unfolding drive_rows scope_rows applies
  clear31 = by_drive 31

  pub clear23 : row23 x.req (length space) ≡ false
  unfolding drive_rows scope_rows applies
  clear23 = by_drive 23

  pub clear32 : row32 (group_bytes s x.cred m) x.req ≡ false
  unfolding drive_rows scope_rows applies
  clear32 = by_drive 32

  pub clear33 : row33 (group_bytes s x.cred m) x.req ≡ false
  unfolding drive_rows scope_rows applies
  clear33 = by_drive 33

  pub clear34 : row34 s x.req ≡ false
  unfolding drive_rows scope_rows applies
  clear34 = by_drive 34

  -- rights, expiry, range, key and version are kept, the operation table, and a group's list
  pub bound : first_row (bounds s (group_bytes s x.cred m) x) ≡ 0
  unfolding drive_rows scope_rows applies bounds first_row
  bound =
      let h7 : row7 s x.cred x.req ≡ false = by_drive 7 in
      let h8 : row8 s x.cred ≡ false = by_drive 8 in
      let h9 : row9 s x ≡ false = by_drive 9 in
      let h10 : row10 s x.cred ≡ false = by_drive 10 in
      let h13 : row13 s x.cred x.req ≡ false = by_drive 13 in
      let h14 : row14 s x.cred ≡ false = by_drive 14 in
      let h15 : row15 s x.cred x.req ≡ false = by_drive 15 in
      let h16 : row16 x.cred x.req ≡ false = by_drive 16 in
      let h17 : row17 s x.cred x.req ≡ false = by_drive 17 in
      rw (h7, h8, h9, h10, h13, h14, h15, clear32, clear33, clear34, h16, h17) refl

  pub in_four : x.cred.partition < 4
  in_four = low_partition x clear4

  pub in_five : memory_index x.cred < 5
  in_five = low_memory x clear4

  pub known_operation : (1 ≤ x.req.operation) × (x.req.operation ≤ 8)
  known_operation =
      let h : outside_request x.req ≡ false =
      or_r (outside_credential x.cred) (outside_request x.req) clear4 in (
        ltb-false x.req.operation 1 (none_of (request_faults x.req) h 0),
        ltb-false 8 x.req.operation (none_of (request_faults x.req) h 1),
      )

  -- an object, not 0, is there, and operations 1 to 6 name its version
  pub exists : (x.cred.object ≡ 0 → ⊥) → missing (named_object s x.cred.object) ≡ false
  unfolding drive_rows scope_rows applies row14
  exists h = and_rest_false (x.cred.object isnt 0) (missing (named_object s x.cred.object))
      (ap not (ne_eqb x.cred.object 0 h)) (by_drive 14)

  pub unexpired : s.high_water ≤ x.cred.expiry
  unfolding drive_rows scope_rows applies row10
  unexpired = ltb-false x.cred.expiry s.high_water (by_drive 10)

  pub version_is : x.req.operation ≤ 6 → x.cred.version ≡ present_version s x.cred.object
  unfolding drive_rows scope_rows applies row15
  version_is h = eqb-true x.cred.version (present_version s x.cred.object)
      (not-false (x.cred.version is present_version s x.cred.object)
      (and_rest_false (x.req.operation under 7) (x.cred.version isnt present_version s x.cred.object)
      (lt-ltb x.req.operation 7 (omega arith)) (by_drive 15)))

  -- a group credential comes with a group's request, for one of operations 1 to 3 of an object
  pub group-request : is_group_credential x.cred ≡ true → is_group_request x.req ≡ true
  group-request h = not-false (is_group_request x.req) (and_rest_false (is_group_credential x.cred)
      (not (is_group_request x.req)) h (none_of (misfits x.cred x.req) clear6 13))

  -- and only a group credential does
  pub group-credential : is_group_request x.req ≡ true → is_group_credential x.cred ≡ true
  group-credential h = go (bool_cases (is_group_credential x.cred))
    where
      go : (is_group_credential x.cred ≡ true) ⊎ (is_group_credential x.cred ≡ false) → is_group_credential x.cred ≡ true
      go (inl e) = e
      go (inr e) = absurd (true≢false (sym h ∙ and_rest_false (not (is_group_credential x.cred)) (is_group_request x.req)
          (ap not e) (none_of (misfits x.cred x.req) clear6 14)))

  pub group-operation : is_group_credential x.cred ≡ true → x.req.operation ≤ 3
  group-operation h =
      omega (arith, ltb-false _ x.req.operation (and_rest_false _ _ h (none_of (misfits x.cred x.req) clear6 11)))

  pub group-object : is_group_credential x.cred ≡ true → x.cred.object ≡ 0 → ⊥
  group-object h = eqb-false x.cred.object 0 (and_rest_false (is_group_credential x.cred)
      (x.cred.object is 0) h (none_of (misfits x.cred x.req) clear6 12))

  -- what is read, written or deleted is an object
  names_object : (x.req.operation is 1 || x.req.operation is 2 || x.req.operation is 6) ≡ true
      → x.cred.object ≡ 0 → ⊥
  names_object h = eqb-false x.cred.object 0
      (and_rest_false (x.req.operation is 1 || x.req.operation is 2 || x.req.operation is 6)
      (x.cred.object is 0) h (none_of (misfits x.cred x.req) clear6 2))

  pub deletes-object : operation_of x ≡ Delete → x.cred.object ≡ 0 → ⊥
  deletes-object o = names_object (rw (asks_for x.req Delete o) refl)

  -- the object that a frame reads or writes is there, and the bytes are inside it
  pub there : is_transfer x.req ≡ true → missing (named_object s (target_of x.cred x.req)) ≡ false
  unfolding row34
  there h = go (bool_cases (is_group_request x.req))
    where
      go : (is_group_request x.req ≡ true) ⊎ (is_group_request x.req ≡ false)
          → missing (named_object s (target_of x.cred x.req)) ≡ false
      go (inl e) = rw (target-member x.cred x.req e)
          (and_rest_false (is_group_request x.req) (missing (named_object s x.req.member)) e clear34)
      go (inr e) = rw (target-object x.cred x.req e)
          (exists (names_object (or_intro_l (x.req.operation is 1 || x.req.operation is 2) (x.req.operation is 6) h)))

  pub in_object : is_transfer x.req ≡ true → x.req.A + x.req.B ≤ (object_of s (target_of x.cred x.req)).size
  unfolding drive_rows scope_rows applies row17
  in_object h =
      ltb-false (object_of s (target_of x.cred x.req)).size (x.req.A + x.req.B)
      (and_rest_false (is_transfer x.req) (x.req.A + x.req.B over (object_of s (target_of x.cred x.req)).size) h
      (by_drive 17))

  pub in_range : is_transfer x.req ≡ true → (x.cred.first ≤ x.req.A) × (x.req.A + x.req.B ≤ x.cred.end)
  unfolding drive_rows scope_rows applies row16
  in_range h =
      let low : Bool = leb x.cred.first x.req.A in
      let high : Bool = leb (x.req.A + x.req.B) x.cred.end in
      let e : (low && high) ≡ true =
      not-false (low && high) (and_rest_false (is_transfer x.req) (not (low && high)) h (by_drive 16)) in
      (leb-true x.cred.first x.req.A (and_l low high e), leb-true (x.req.A + x.req.B) x.cred.end (and_r low high e))

  -- reads and writes move bytes
  pub read_moves : {a b : ℕ} → operation_of x ≡ Read a b → is_transfer x.req ≡ true
  read_moves o = rw (asks_for x.req (Read _ _) o).0 refl

  pub write_moves : {a b : ℕ} → operation_of x ≡ Write a b → is_transfer x.req ≡ true
  write_moves o = rw (asks_for x.req (Write _ _) o).0 refl

  data_length_lem : length x.payload ≡ x.req.n
  unfolding fields
  data_length_lem =
      let n : ℕ = frame_length (request_start f) x.req in
      length_part f (part_starts f).payload x.req.n
      (omega (arith, eqb-true (length f) n (not-false (length f is n) (or_r (wrong_data x.req) (length f isnt n) clear5))))

  can_write : (a b : ℕ) → operation_of x ≡ Write a b → CanWrite s x a b
  can_write a b o =
      let k = asks_for x.req (Write a b) o in
      record {
        there = there (write_moves o);
        fits = omega (arith, k.1, k.2, in_object (write_moves o));
        len = data_length_lem
            ∙ eqb-true x.req.n (data_length x.req)
            (not-false (x.req.n is data_length x.req)
            (or_l (wrong_data x.req) (length f isnt frame_length (request_start f) x.req) clear5))
            ∙ rw k.0 k.2;
      }

  pub number-free : (a b : ℕ) → operation_of x ≡ Create a b
      → missing (find Object.number a s.partition.objects) ≡ true
  unfolding drive_rows scope_rows applies row18
  number-free a b o =
      let k = asks_for x.req (Create a b) o in
      subst (λ (n : ℕ). missing (find Object.number n s.partition.objects) ≡ true) k.1
      (not-false (missing (find Object.number x.req.A s.partition.objects))
      (and_rest_false (x.req.operation is 5)
      (not (missing (find Object.number x.req.A s.partition.objects)))
      (eq-eqb x.req.operation 5 k.0) (by_drive 18)))

  pub place_found : (a b : ℕ) → operation_of x ≡ Create a b → missing (placement s b) ≡ false
  unfolding drive_rows scope_rows applies row20
  place_found a b o =
      let k = asks_for x.req (Create a b) o in
      subst (λ (n : ℕ). missing (placement s n) ≡ false) k.2
      (and_rest_false (x.req.operation is 5) (missing (placement s x.req.B))
      (eq-eqb x.req.operation 5 k.0) (by_drive 20))

  can_create : SoundScope s → (a b : ℕ) → operation_of x ≡ Create a b → CanCreate s a b
  unfolding drive_rows scope_rows applies placement placement_start row19
  can_create h a b o =
      let k = asks_for x.req (Create a b) o in
      let is5 : (x.req.operation is 5) ≡ true = eq-eqb x.req.operation 5 k.0 in
      let h6 : (x.req.A is 0 || x.req.B is 0) ≡ false =
      and_rest_false (x.req.operation is 5) (x.req.A is 0 || x.req.B is 0) is5
      (none_of (misfits x.cred x.req) clear6 5) in
      let a0 : x.req.A ≡ 0 → ⊥ = eqb-false x.req.A 0 (or_l (x.req.A is 0) (x.req.B is 0) h6) in
      let b0 : x.req.B ≡ 0 → ⊥ = eqb-false x.req.B 0 (or_r (x.req.A is 0) (x.req.B is 0) h6) in
      let full : length here ≡ 16 → ⊥ = eqb-false (length here) 16
      (and_rest_false (x.req.operation is 5) (length here is 16) is5 (by_drive 19)) in
      record {
        number_one = omega (arith, k.1);
        size_one = omega (arith, k.2);
        free = not_found Object.number a here (number-free a b o);
        room = omega (arith, it.count);
        place = placed extent_step (omega arith) s.quarter here sized b (omega (arith, k.2)) (place_found a b o);
      }
    where
      here : List Object
      here = s.partition.objects

      it : SoundPartition s.quarter s.partition
      it = partition_is s.quarter s.partition h

      sized : (a : Object) → Memᴰ a here → 1 ≤ a.size
      sized a k = (member-sound it k).size

  pub grant : SoundScope s → Grant (operation_of x) s x
  grant h = record { partition = in_four; writes = can_write; creates = can_create h }
