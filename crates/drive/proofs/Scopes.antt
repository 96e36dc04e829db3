-- The scope that the gate takes out of a drive, and the drive with an outcome put back: the last step of `gate`.
use mathlib.Core.Path.{◌≡◌, refl, sym, ap, subst, ◌∙◌}
use mathlib.Core.Bool.{Bool, true, false, ◌&&◌, ◌||◌, not}
use mathlib.Core.List.{List, [], ◌∷◌, ◌++◌, map}
use Prim.Native.Nat.{ℕ, ◌+◌, ◌-◌, ◌*◌, ◌≤◌, ◌<◌}
use native.Mathlib.Omega.{arith}
use lib.Dec.{leb}
use lib.ListN.{length, get_or, drop, length-take, length-drop}
use borrow.Rule.Slice.PartMut.{mid_of, put_mid}
use borrow.Author.Tests.{leb-true, eq-eqb}
use Rattle.lemmas.specs.Tests.{◌is◌}
use Rattle.lemmas.specs.Lists.{some?, update}
use Rattle.lemmas.specs.ListLaws.{every_nth, set-update}
use Rattle.lemmas.specs.RowTable.{first_row}
use Rattle.rules.specs.declared.Entry.{Entry}
use Rattle.rules.specs.declared.Object.{Object}
use Rattle.rules.specs.declared.Credential.{Credential}
use Rattle.rules.specs.Frame.{Fields, fields, memory_index, entry}
use Rattle.rules.specs.Drive as rules
use Rattle.rules.specs.Drive.{
  quarter,
  largest_medium,
  most_objects,
  most_entries,
  same_entry,
  refresh,
  sound,
  sound_partition,
  empty_partition,
}
use Rattle.rules.specs.Scope.{Scope, drive_scope, drive_with_scope}
use Rattle.rules.specs.Operations.{perform}
use Rattle.rules.specs.Rows.{row1, row12, drive_rows}
use Rattle.rules.specs.Gate as rules_gate
use Rattle.rules.specs.Gate.{Call, gate, whole_answer}
use Rattle.rules.proofs.Keeps.{refresh-sound, small_of, tables_of_lem, memories_of_lem}
use Rattle.rules.proofs.Sound.{at_sound}
use Rattle.rules.proofs.Memories.{short as short-list}
use Rattle.wire.specs.declared.ParsedRequest.{ParsedRequest}
use Rattle.wire.specs.Parse.{numbers_of}
use Rattle.keyring.specs.Keys.{partition_count, keys_in}
use Rattle.memory.specs.Memory.{memory_count}
use Rattle.state.specs.Table.{count_at, table_size, partition_in, partition_view}
use Rattle.state.specs.Places.{view_is}
use Rattle.state.specs.Changes.{HasContent}
use Rattle.judge.specs.declared.ScopeFacts.{ScopeFacts}
use Rattle.rules.specs.Needs.{needs_at}
use Rattle.partition.specs.Partition.{content_after}
use Rattle.partition.specs.Applied.{applied_is}
use Rattle.set_key.specs.Keys.{keys_after}
use Rattle.set_key.specs.KeysAfter.{keys_after_lem}
use Rattle.drive.specs.declared.Drive.{Drive}
use Rattle.drive.specs.Answers.{Answer}
use Rattle.drive.specs.View.{view, tables_in, memories_of, objects_fit, CountsFit}
use Rattle.drive.specs.Admission.{scope_from, scope_answer, ParsedTo, AdmitRequires, Outcome, OutcomeMet}
use Rattle.drive.specs.Met.{call_of, GateMet}
use Rattle.drive.proofs.Frames.{parsed-row, parsed-credential, partition_is, in_four, memory_is, in_five}
use Rattle.drive.proofs.Tables.{map_at, tables_at, tables-length, tables_put}
use Rattle.drive.proofs.Memories.{held_long}
use Rattle.drive.proofs.Admitting.{memory_entered, memory-room, keys-performed, partition-performed}
use Rattle.drive.proofs.Whole.{restored, update_to}
use Rattle.drive.proofs.Gates.{gate-scope-answer, scope-answer_zero, scope-answer-refused, drive_not_1, meets}

-- ---- row 1's test as the code makes it
pub ready_row1 : (d : rules.Drive) (m : List ℕ) (b : Bool) → b ≡ (sound d && length m is d.size) → row1 d m ≡ not b
unfolding row1
ready_row1 d m b e = go (sound d) (length m is d.size) ∙ ap not (sym e)
  where
    go : (a c : Bool) → (not a || not c) ≡ not (a && c)
    go true c = refl
    go false c = refl

-- what the gate has when it takes the scope out of a drive: the drive lent, the drive at the clock reading, a medium and a
-- parsed frame, the place of the frame's memory, and whether that holds its nonce
pub record Opened : Type 0 where
  pub lent : Drive
  pub fresh : Drive
  pub clock : ℕ
  pub medium : List ℕ
  pub frame : List ℕ
  pub cred : Credential
  pub request : ParsedRequest
  pub memory : ℕ
  pub replayed : Bool
  pub viewed : view fresh ≡ refresh clock (view lent)
  pub keys : fresh.keys ≡ lent.keys
  pub tables : fresh.tables ≡ lent.tables
  pub counted : CountsFit fresh
  pub whole : sound (view lent) ≡ true
  pub size : length medium ≡ lent.size
  pub parsed : ParsedTo frame cred request
  pub placed : memory ≡ memory_index cred
  pub found : replayed ≡ some? (same_entry (entry cred (numbers_of request)))
      (get_or (memories_of fresh.lengths fresh.entries fresh.times) memory [])

module _ (o : Opened) where
  abbrev d : Drive
  d = o.fresh

  abbrev m : List ℕ
  m = o.medium

  abbrev x : Fields
  x = fields o.frame

  abbrev i : ℕ
  i = o.cred.partition

  abbrev k : ℕ
  k = o.memory

  k_is : k ≡ memory_index x.cred
  k_is = o.placed ∙ memory_is o.parsed

  k_low : k < memory_count
  k_low = let h = in_five o.parsed in omega (arith, o.placed)

  -- the partition's table, as the code lends it
  abbrev width : ℕ
  width = table_size * i + table_size - table_size * i

  width_is : width ≡ table_size
  width_is = omega arith

  abbrev pub part : List ℕ
  part = mid_of (table_size * i) width d.tables

  part_is : get_or (tables_in partition_count d.tables) i [] ≡ part
  part_is = tables_at partition_count i d.tables (in_four o.parsed)
      ∙ ap (λ (n : ℕ). mid_of (table_size * i) n d.tables) (sym width_is)

  pub long_part : length part ≡ table_size
  long_part =
      let a = length-take width (drop (table_size * i) d.tables) in
      let b = length-drop (table_size * i) d.tables in
      let c = o.counted.tables in
      let e = in_four o.parsed in
      omega (arith, width_is)

  abbrev all_memories : List (List Entry)
  all_memories = memories_of d.lengths d.entries d.times

  -- the entries of memory k
  abbrev pub mem : List Entry
  mem = get_or all_memories k []

  count_fits : get_or part count_at 0 ≤ most_objects
  count_fits = leb-true (get_or part count_at 0) most_objects
      (ap objects_fit (sym part_is) ∙ every_nth objects_fit (tables_in partition_count d.tables) i [] refl o.counted.objects)

  mem_long : get_or d.lengths k 0 ≡ length mem
  mem_long = held_long d.lengths d.entries d.times o.counted.memories k k_low

  -- ---- it is the frame's own scope of the drive
  own-partition : (drive_scope (view d) x.cred).partition ≡ partition_in part
  unfolding view
  own-partition =
      ap (λ (j : ℕ). get_or (map partition_view (tables_in partition_count d.tables)) j (empty_partition 0)) (sym (partition_is o.parsed))
      ∙ map_at partition_view (tables_in partition_count d.tables) i [] (empty_partition 0)
      (omega (arith, in_four o.parsed, tables-length partition_count d.tables))
      ∙ ap partition_view part_is ∙ view_is part long_part count_fits

  own-memory : (drive_scope (view d) x.cred).memory ≡ mem
  unfolding view
  own-memory = ap (λ (j : ℕ). get_or all_memories j []) (sym k_is)

  sound-d : sound (view d) ≡ true
  sound-d = ap sound o.viewed ∙ refresh-sound o.clock (view o.lent) o.whole

  sound-part : sound_partition (quarter d.size) (partition_in part) ≡ true
  unfolding view
  sound-part = ap (sound_partition (quarter d.size)) (sym own-partition)
      ∙ at_sound (quarter (view d).size) (view d).tables x.cred.partition (tables_of_lem (view d) sound-d)

  sound-mem : length mem ≤ most_entries
  sound-mem = leb-true (length mem) most_entries (ap (λ (l : List Entry). leb (length l) most_entries) (sym own-memory)
      ∙ every_nth short-list (view d).memories (memory_index x.cred) [] refl (memories_of_lem (view d) sound-d))

  row1_no : row1 (view o.lent) m ≡ false
  unfolding view row1
  row1_no = ready_row1 (view o.lent) m true (rw (o.whole, eq-eqb (length m) o.lent.size o.size) refl)

  -- ---- what `admit` is handed
  abbrev facts : ScopeFacts
  facts = record {
    size = d.size;
    highwater = d.highwater;
    replayed = o.replayed;
    held = get_or d.lengths k 0;
  }

  pub ready : AdmitRequires facts d.keys part mem m o.frame o.cred o.request
  unfolding view refresh row12
  ready = record {
    parsed = o.parsed;
    size = o.size ∙ sym (ap (λ (e : rules.Drive). e.size) o.viewed);
    small = leb-true d.size largest_medium (small_of (view d) sound-d);
    sound = sound-part;
    short = sound-mem;
    replayed = sym o.found;
    held = sym mem_long;
    keys = o.counted.keys;
    table = long_part;
  }

  abbrev scope : Scope Object
  scope = scope_from facts d.keys part mem

  scope_is : drive_scope (view d) x.cred ≡ scope
  unfolding view
  scope_is = λ i. record {
    quarter = quarter d.size;
    high_water = d.highwater;
    keys = keys_in d.keys;
    partition = own-partition i;
    memory = own-memory i;
  }

  -- ---- an outcome, and what the gate makes of it
  module _ {space : List ℕ} {out : Outcome} {after replied : List ℕ}
      (given : OutcomeMet scope m o.frame space o.request.operation out after replied) where
    abbrev call : Call
    call = call_of o.frame o.clock space

    abbrev a : rules_gate.Answer (Scope Object)
    a = scope_answer scope m x space

    gate_is : gate (view o.lent) m call ≡ whole_answer x.cred (view d) a
    gate_is = gate-scope-answer (view o.lent) m o.frame o.clock space row1_no (parsed-row o.parsed)
        ∙ ap (λ (e : rules.Drive). whole_answer x.cred e (scope_answer (drive_scope e x.cred) m x space)) (sym o.viewed)
        ∙ ap (λ (e : Scope Object). whole_answer x.cred (view d) (scope_answer e m x space)) scope_is

    not_1 : out.row ≡ 1 → ⊥
    not_1 k = drive_not_1 scope m x space (sym given.row ∙ k)

    -- a refusal leaves the drive
    pub met_refused : (out.row ≡ 0 → ⊥) → (r : Answer) → r.row ≡ out.row → r.length ≡ out.length → r.drive ≡ d
        → GateMet o.lent m call r after replied
    met_refused z r row length e =
        meets o.lent m call r after replied (whole_answer x.cred (view d) a) gate_is
        (row ∙ given.row) (length ∙ given.length) (ap view e ∙ left) (λ k. absurd (not_1 (sym row ∙ k)))
        (λ n. (ap Drive.keys e ∙ o.keys, ap Drive.tables e ∙ o.tables)) given.medium given.space
      where
        left : view d ≡ drive_with_scope x.cred a.drive (view d)
        left = sym (restored (view d) x.cred)
            ∙ ap (λ (e : Scope Object). drive_with_scope x.cred e (view d))
            (scope_is ∙ sym (scope-answer-refused scope m x space (λ k. z (given.row ∙ k))))

    -- a grant is put back, and its nonce entered
    module _ (grant : out.row ≡ 0) where
      no_row : first_row (drive_rows scope m x space) ≡ 0
      no_row = scope-answer_zero scope m x space (sym given.row ∙ grant)

      -- there is room for it
      pub has_room : get_or d.lengths k 0 < most_entries
      has_room = let room = memory-room ready space no_row in omega (arith, mem_long)

      module _ (ks u : List ℕ) (keyed : ks ≡ keys_after o.request.operation out.key o.cred.slot o.cred.partition
          (x.request ++ x.payload) d.keys)
          (became : HasContent part u (content_after o.request.operation o.cred.object out.nextversion out.newstart
          (needs_at x.payload) part))
          (nonce : Entry) (is_nonce : nonce ≡ entry o.cred (numbers_of o.request)) (ns es ts : List ℕ)
          (entered : memories_of ns es ts ≡ update k (λ (old : List Entry). old ++ (nonce ∷ [])) all_memories) where
        abbrev back : Drive
        back = record {
          size = d.size;
          highwater = d.highwater;
          keys = ks;
          tables = put_mid (table_size * i) width d.tables u;
          lengths = ns;
          entries = es;
          times = ts;
        }

        c_is : o.cred ≡ x.cred
        c_is = parsed-credential o.parsed

        -- the keys are the answer's
        keys_in_lem : keys_in ks ≡ a.drive.keys
        keys_in_lem = ap keys_in keyed
            ∙ ap (λ (e : Credential). keys_in (keys_after o.request.operation out.key e.slot e.partition
            (x.request ++ x.payload) d.keys)) c_is
            ∙ keys_after_lem o.request.operation scope x m d.keys out.key (given.key grant) o.counted.keys refl (given.set grant)
            ∙ sym (keys-performed ready space no_row)

        -- and so is the partition
        changed : (partition_in u ≡ (perform o.request.operation scope x m).scope.partition)
            × (get_or u count_at 0 ≤ most_objects) × (length u ≡ table_size)
        changed = applied_is part u o.request.operation scope x m out.nextversion out.newstart long_part count_fits refl
            (given.fits grant) (subst (λ (e : Credential). HasContent part u
            (content_after o.request.operation e.object out.nextversion out.newstart (needs_at x.payload) part)) c_is became)

        partitions_in : map partition_view (tables_in partition_count (put_mid (table_size * i) width d.tables u))
            ≡ update x.cred.partition (λ (old : rules.Partition Object). a.drive.partition)
            (map partition_view (tables_in partition_count d.tables))
        partitions_in =
            ap (λ (n : ℕ). map partition_view (tables_in partition_count (put_mid (table_size * i) n d.tables u))) width_is
            ∙ ap (map partition_view) (tables_put partition_count i d.tables u (in_four o.parsed) o.counted.tables changed.2)
            ∙ set-update partition_view (tables_in partition_count d.tables) i u a.drive.partition
            (view_is u changed.2 changed.1 ∙ changed.0 ∙ sym (partition-performed ready space no_row))
            ∙ ap (λ (j : ℕ). update j (λ (old : rules.Partition Object). a.drive.partition)
            (map partition_view (tables_in partition_count d.tables))) (partition_is o.parsed)

        memories_in_lem : memories_of ns es ts
            ≡ update (memory_index x.cred) (λ (old : List Entry). a.drive.memory) all_memories
        memories_in_lem = entered
            ∙ update_to k (λ (old : List Entry). old ++ (nonce ∷ [])) all_memories [] a.drive.memory
            (ap (λ (e : Entry). mem ++ (e ∷ [])) is_nonce ∙ memory_entered ready space no_row)
            ∙ ap (λ (j : ℕ). update j (λ (old : List Entry). a.drive.memory) all_memories) k_is

        back_is : view back ≡ drive_with_scope x.cred a.drive (view d)
        unfolding view
        back_is = rw (partitions_in, memories_in_lem, keys_in_lem) refl

        pub met_granted : (r : Answer) → r ≡ record { row = out.row; length = out.length; drive = back }
            → GateMet o.lent m call r after replied
        met_granted r e = subst (λ (b : Answer). GateMet o.lent m call b after replied) (sym e)
            (meets o.lent m call (record { row = out.row; length = out.length; drive = back }) after replied
            (whole_answer x.cred (view d) a) gate_is given.row given.length back_is (λ k. absurd (not_1 k))
            (λ n. absurd (n grant)) given.medium given.space)
