-- Rows 10 to 23, with 32 to 34 after 15 and 31 after 21, as the code makes them, of one partition's table and two facts of one
-- replay memory: they are the documents'.
-- p: the partition. c, r: the numbers of credential and request. n: what the operation needs. bad: whether it would load a
-- table that is not good. found: the object that the credential names; group: its bytes. listed: what rows 32 and 33 say of them.
-- target: the object that the frame reaches. place: where a new extent starts. room: the length of the reply space.
use Rattle.std.specs.Prelude.{◌≡◌, refl, Bool, true, false, not, ◌&&◌, cond, List, ℕ, ◌+◌, length as count}
use Rattle.std.proofs.Common.{ap, ◌∙◌}
use Rattle.std.proofs.Math.Option
use Rattle.std.proofs.Math.Option.{Option, none}
use Rattle.lemmas.specs.Tests.{◌is◌, ◌isnt◌, ◌over◌, ◌under◌}
use Rattle.lemmas.specs.Lists.{find, missing}
use Rattle.lemmas.specs.Options.{option_of}
use Rattle.lemmas.specs.RowTable.{first_row}
use Rattle.rules.specs.declared.Credential.{Credential}
use Rattle.rules.specs.declared.Request.{Request}
use Rattle.rules.specs.declared.Need.{Need}
use Rattle.rules.specs.declared.Object.{Object}
use Rattle.rules.specs.Frame.{is_group_request, target_of}
use Rattle.rules.specs.Drive as rules
use Rattle.rules.specs.Drive.{last_version, most_objects, most_entries}
use Rattle.rules.specs.BestFit.{extent_step, best_fit}
use Rattle.rules.specs.Scope.{Scope}
use Rattle.rules.specs.Group.{is_group_list, lists}
use Rattle.rules.specs.Operations.{named_object, no_object, object_of, present_version, placement, reply_length}
use Rattle.rules.specs.Refusals.{answer_row}
use Rattle.rules.specs.Rows.{
  expired,
  untimely,
  lacks_right,
  is_transfer,
  gives_version,
  out_of_range,
  need_of,
  row10,
  row11,
  row12,
  row13,
  row14,
  row15,
  row32,
  row33,
  row34,
  row16,
  row17,
  row18,
  row19,
  row20,
  row21,
  row31,
  row22,
  scope_rows,
}
use Rattle.group.specs.GroupRow.{group_row}
use Rattle.judge.specs.declared.ScopeFacts.{ScopeFacts}
use Rattle.judge.specs.declared.FrameFacts.{FrameFacts}

-- the object, or where there is none all zeros
abbrev pub object_or_none : Option Object → Object
object_or_none o = Option.get_or o no_object

-- where a new object's extent starts; none where no object is created
abbrev pub placement_for : ℕ → List Object → Request → Option ℕ
placement_for q l r = cond (r.operation isnt 5) none (best_fit extent_step q l r.B)

-- the present version of what a number names: the partition's for number 0, else that of the object found
abbrev pub present_version_in : ℕ → ℕ → Option Object → ℕ
present_version_in version n found = cond (n is 0) version (object_or_none found).version

-- what rows 32 and 33 say of a request, and of the bytes of the object that its credential names; 0 where neither applies
abbrev pub list_row : List ℕ → Request → ℕ
list_row group r = cond (is_group_request r) (group_row group r.member) 0

-- ---- the rows, `rest` being the answer where none of them applies
abbrev pub time_row : ScopeFacts → Need → Credential → Request → ℕ → ℕ
time_row facts n c r rest =
    cond (expired facts.highwater c.expiry) 10
    (cond (untimely facts.highwater r.time) 11
    (cond facts.replayed 12 (cond (lacks_right n c) 13 rest)))

abbrev pub object_row : Credential → Request → Option Object → ℕ → ℕ → Option Object → ℕ → ℕ
object_row c r found version listed target rest =
    cond (c.object isnt 0 && missing found) 14
    (cond (r.operation under 7 && c.version isnt version) 15
    (cond (listed isnt 0) listed
    (cond (is_group_request r && missing target) 34
    (cond (is_transfer r && out_of_range c.first c.end r.A r.B) 16
    (cond (is_transfer r && r.A + r.B over (object_or_none target).size) 17 rest)))))

abbrev pub room_row : rules.Partition Object → ℕ → Bool → Request → Option ℕ → ℕ → ℕ → ℕ
room_row p held bad r place length room =
    cond (r.operation is 5 && not (missing (find Object.number r.A p.objects))) 18
    (cond (r.operation is 5 && count p.objects is most_objects) 19
    (cond (r.operation is 5 && missing place) 20
    (cond (gives_version r && p.last is last_version) 21
    (cond bad 31 (cond (held is most_entries) 22 (cond (room under length) 23 0))))))

-- ---- what the code knows of a Scope s, and of a frame with the data `payload`, whose credential names the object of the bytes `group`:
-- the facts, the partition, and what was worked out of the frame
pub record FactsHold (s : Scope Object) (facts : ScopeFacts) (p : rules.Partition Object) (k : FrameFacts) (payload group : List ℕ)
    : Type 0 where
  pub marked : s.high_water ≡ facts.highwater
  pub own : s.partition ≡ p
  pub repeats : row12 s k.credential k.request ≡ facts.replayed
  pub entries : count s.memory ≡ facts.held
  pub need : need_of s k.credential k.request ≡ k.need
  pub load : row31 k.request payload ≡ k.badload
  pub list : list_row group k.request ≡ answer_row k.listed
  pub named : option_of k.found ≡ find Object.number k.credential.object p.objects
  pub reached : option_of k.target ≡ find Object.number (target_of k.credential k.request) p.objects
  pub placed : option_of k.place ≡ cond (k.request.operation isnt 5) none (placement s k.request.B)
  pub whole : k.length ≡ reply_length k.request

-- a place that is looked for only where one is needed judges row 20 the same
place_when : (b : Bool) (place : Option ℕ) → (b && missing (cond (not b) none place)) ≡ (b && missing place)
place_when true place = refl
place_when false place = refl

-- rows 32 and 33 in one number stand in the table as two
list-joins : (group : List ℕ) (r : Request) (rest : ℕ)
    → cond (list_row group r isnt 0) (list_row group r) rest ≡ cond (row32 group r) 32 (cond (row33 group r) 33 rest)
unfolding row32 row33 group_row first_row
list-joins group r rest = go (is_group_request r) (is_group_list group) (lists group r.member)
  where
    go : (b i h : Bool)
        → (let n : ℕ = cond b (cond (not i) 32 (cond (not h) 33 0)) 0 in cond (n isnt 0) n rest)
        ≡ cond (b && not i) 32 (cond (b && not h) 33 rest)
    go true true true = refl
    go true true false = refl
    go true false h = refl
    go false i h = refl

-- the member, where there is one, is what the frame reaches
member-reached : (l : List Object) (c : Credential) (r : Request)
    → (is_group_request r && missing (find Object.number (target_of c r) l)) ≡ (is_group_request r && missing (find Object.number r.member l))
unfolding target_of
member-reached l c r = go (is_group_request r)
  where
    go : (b : Bool)
        → (b && missing (find Object.number (cond b r.member c.object) l)) ≡ (b && missing (find Object.number r.member l))
    go true = refl
    go false = refl

-- ---- they are the rules' rows
pub rows_by_facts : (s : Scope Object) (facts : ScopeFacts) (p : rules.Partition Object) (k : FrameFacts) (payload group : List ℕ)
    (room : ℕ) → FactsHold s facts p k payload group
    → time_row facts k.need k.credential k.request
    (object_row k.credential k.request (option_of k.found) (present_version_in p.version k.credential.object (option_of k.found))
    (answer_row k.listed) (option_of k.target) (room_row p facts.held k.badload k.request (option_of k.place) k.length room))
    ≡ first_row (scope_rows s k.credential k.request payload group room)
unfolding
    first_row
    scope_rows
    row10
    row11
    row13
    row14
    row15
    row34
    row16
    row17
    row18
    row19
    row20
    row21
    row22
    named_object
    object_of
    present_version
rows_by_facts s facts p k payload group room w =
    let r = k.request in
    let w20 : (r.operation is 5 && missing (option_of k.place)) ≡ (r.operation is 5 && missing (placement s r.B)) =
    ap (λ (a : Option ℕ). r.operation is 5 && missing a) w.placed
    ∙ place_when (r.operation is 5) (placement s r.B) in
    rw (
      w20,
      w.named,
      w.reached,
      ← w.list,
      list-joins group r _,
      member-reached p.objects k.credential r,
      w.whole,
      ← w.marked,
      ← w.own,
      ← w.repeats,
      ← w.entries,
      ← w.need,
      ← w.load,
    ) refl

-- ---- rows that are judged apart: an answer of 0 goes on to the rest
pub time_joins : (facts : ScopeFacts) (n : Need) (c : Credential) (r : Request) (rest : ℕ)
    → time_row facts n c r rest ≡ cond (time_row facts n c r 0 is 0) rest (time_row facts n c r 0)
time_joins facts n c r rest = go (expired facts.highwater c.expiry) (untimely facts.highwater r.time) facts.replayed (lacks_right n c)
  where
    go : (t u v w : Bool)
        → (let f : ℕ → ℕ = λ (a : ℕ). cond t 10 (cond u 11 (cond v 12 (cond w 13 a))) in f rest ≡ cond (f 0 is 0) rest (f 0))
    go true u v w = refl
    go false true v w = refl
    go false false true w = refl
    go false false false true = refl
    go false false false false = refl

pub object_joins : (c : Credential) (r : Request) (found : Option Object) (version listed : ℕ) (target : Option Object) (rest : ℕ)
    → object_row c r found version listed target rest
    ≡ cond (object_row c r found version listed target 0 is 0) rest (object_row c r found version listed target 0)
object_joins c r found version listed target rest =
    go (c.object isnt 0 && missing found) (r.operation under 7 && c.version isnt version) (listed is 0) refl
    (is_group_request r && missing target) (is_transfer r && out_of_range c.first c.end r.A r.B)
    (is_transfer r && r.A + r.B over (object_or_none target).size)
  where
    go : (t u z : Bool) → (listed is 0) ≡ z → (v w y : Bool)
        → (let f : ℕ → ℕ = λ (a : ℕ). cond t 14 (cond u 15 (cond (not z) listed (cond v 34 (cond w 16 (cond y 17 a))))) in
        f rest ≡ cond (f 0 is 0) rest (f 0))
    go true u z e v w y = refl
    go false true z e v w y = refl
    go false false false e v w y = rw e refl
    go false false true e true w y = refl
    go false false true e false true y = refl
    go false false true e false false true = refl
    go false false true e false false false = refl
