-- What the code of `admit` finds and does, in the rules' words: rows 7, 8, 9 and the judged ones, and the grant. All of the
-- facts, keys, table and memory that a frame can see, and of the medium.
use mathlib.Core.Path.{◌≡◌, refl, sym, ap, subst, ◌∙◌}
use mathlib.Core.Bool.{Bool, true, false, not, cond, ◌&&◌}
use mathlib.Core.Option
use mathlib.Core.Option.{Option, none, some}
use mathlib.Core.List.{List, [], ◌∷◌, ◌++◌}
use Prim.Native.Nat.{ℕ, ◌+◌, ◌*◌, ◌≤◌, ◌<◌}
use native.Mathlib.Omega.{arith}
use Rattle.std.specs.Prelude as code
use Rattle.std.specs.Option.{ok_or}
use Rattle.std.specs.Result.{IsErrAnd, result_and}
use Rattle.std.proofs.lemmas.Option.{cond_some}
use Rattle.std.proofs.lemmas.Result.{err_from_is_err_and}
use lib.ListN.{length, get_or}
use borrow.Author.Tests.{eqb-false, le-leb, ne_eqb}
use Rattle.lemmas.specs.Tests.{◌is◌, ◌isnt◌, ◌under◌}
use Rattle.lemmas.specs.Lists.{find, part, same, missing}
use Rattle.lemmas.specs.Options.{option_of}
use Rattle.lemmas.specs.RowTable.{Row, line, first_row, row_here, row_next}
use Rattle.digest.specs.Hmac.{hmac}
use Rattle.rules.specs.declared.Credential.{Credential}
use Rattle.rules.specs.declared.Request.{Request}
use Rattle.rules.specs.declared.Entry.{Entry}
use Rattle.rules.specs.declared.Need.{Need}
use Rattle.rules.specs.declared.Object.{Object}
use Rattle.rules.specs.declared.Operation.{Operation}
use Rattle.rules.specs.Frame.{Fields, fields, digest_size, covered, entry, operation, operation_of, key_size, target_of}
use Rattle.rules.specs.Drive.{quarter, most_entries}
use Rattle.rules.specs.Scope.{Scope}
use Rattle.rules.specs.Operations.{
  key_in,
  signing,
  credential_key,
  digest_of,
  extent_bytes,
  extent_start,
  named_object,
  object_of,
  placement,
  head_size,
  result_length,
  reply_length,
  perform,
  remember,
}
use Rattle.rules.specs.Needs.{need_under}
use Rattle.rules.specs.Rows.{group_bytes, low_level, need_of, row7, row8, row9, row12, drive_rows, scope_rows}
use Rattle.rules.specs.Gate.{Answer, granted, refused}
use Rattle.rules.specs.declared.refusal.Refusal.{Refusal}
use Rattle.rules.specs.Refusals.{answer_length, answer_row, refusal_row}
use Rattle.rules.proofs.Refused.{row_isnt_zero}
use Rattle.rules.proofs.Clear.{Clear, clear22}
use Rattle.rules.proofs.Holds.{quarter_in}
use Rattle.rules.proofs.Memories.{room_left}
use Rattle.rules.proofs.Sound.{partition_is}
use Rattle.wire.specs.declared.ParsedRequest.{ParsedRequest}
use Rattle.wire.specs.Parse.{numbers_of, frame_row}
use Rattle.keyring.specs.Keys.{flags_from, is_set, key_count, key_index, keys_in, keys_size, place_of, set_key}
use Rattle.state.specs.Table.{needs_in, objects_in, partition_in}
use Rattle.judge.specs.declared.ScopeFacts.{ScopeFacts}
use Rattle.judge.specs.declared.FrameFacts.{FrameFacts}
use Rattle.judge.specs.Judge.{list_row, object_or_none, placement_for, FactsHold}
use Rattle.effect.specs.declared.GrantContext.{GrantContext}
use Rattle.effect.specs.Effect.{medium_after}
use Rattle.effect.specs.Performed.{ContextFits, BytesFit, medium_is, reached_by}
use Rattle.digest.specs.declared.mac.Mac.{Mac}
use Rattle.digest.specs.Keyed.{Keyed}
use Rattle.sealed_reply.specs.Reply.{reply_put}
use Rattle.sealed_reply.proofs.Performed.{reply_is}
use Rattle.partition.specs.Applied.{ChangeFits}
use Rattle.drive.specs.Admission.{scope_from, scope_answer, grant_context, AdmitRequires, ServeRequires, Outcome, OutcomeMet}
use Rattle.drive.proofs.Frames.{in_four, parsed-row, parsed-credential, parsed-request}
use Rattle.drive.proofs.Grants.{found_inside, numbers-operation, bytes_fit, result_long, reply-room, context-fits, change-fits}

-- ---- what the code answers
-- a value, or what stands for none
pub or_given : {A : Type 0} (o : code.Option A) (d : A) → code.unwrap_or o d ≡ Option.get_or (option_of o) d
or_given code.None d = refl
or_given (code.Some x) d = refl

-- a refusal that is handed on by the `?` is the answer
pub handed_on : {T : Type 0} (a : code.Result T Refusal) (e : Refusal) → IsErrAnd a (λ d. d ≡ e) → a ≡ code.Err e
handed_on a e h = let p = err_from_is_err_and a h in p.1 ∙ ap code.Err p.2

-- a value that there must be
pub ok_or_none : {A : Type 0} (o : code.Option A) (x e : Refusal) → code.Err e ≡ ok_or o x → (o ≡ code.None) × (e ≡ x)
ok_or_none code.None x e h = (refl, cc)
ok_or_none (code.Some y) x e h = (cc, cc)

pub ok_or_some : {A : Type 0} (o : code.Option A) (x : Refusal) (y : A) → code.Ok y ≡ ok_or o x → o ≡ code.Some y
ok_or_some code.None x y h = cc
ok_or_some (code.Some z) x y h = let e : z ≡ y = cc in ap code.Some e

-- the answer of a parse that gave no fields
pub and_row : {T : Type 0} (a : code.Result T Refusal) (n : ℕ) → answer_row (result_and a (code.Ok n)) ≡ answer_row a
and_row (code.Ok x) n = refl
and_row (code.Err e) n = refl

pub and_length : {T : Type 0} (a : code.Result T Refusal) → answer_length (result_and a (code.Ok 0)) ≡ 0
and_length (code.Ok x) = refl
and_length (code.Err e) = refl

-- no refusal has row 0
pub row_not_zero : (e : Refusal) → refusal_row e ≡ 0 → ⊥
row_not_zero e h = eqb-false (refusal_row e) 0 (row_isnt_zero e) h

-- ---- a key's place and its bytes, as the code has them
pub no_place : (ks : List ℕ) (i : ℕ) → code.None ≡ place_of i → is_set ks i ≡ false
no_place ks i h = go (i under key_count) refl h
  where
    last : (b c : Bool) → (b && false && c) ≡ false
    last true c = refl
    last false c = refl

    go : (b : Bool) → (i under key_count) ≡ b → code.None ≡ cond b (code.Some i) code.None → is_set ks i ≡ false
    go true e n = cc
    go false e n = rw e (last (length ks is keys_size) (get_or ks (flags_from + i) 0 isnt 0))

pub the_place : (i j : ℕ) → code.Some j ≡ place_of i → j ≡ i
the_place i j h = sym (cond_some (i under key_count) i j (sym h)).1

pub not_set : (ks : List ℕ) (j : ℕ) → code.None ≡ set_key ks j → is_set ks j ≡ false
not_set ks j h = go (is_set ks j) h
  where
    go : (b : Bool) → code.None ≡ cond b (code.Some (part ks (key_size * j) key_size)) code.None → b ≡ false
    go true n = cc
    go false n = refl

pub key_is : (ks : List ℕ) (j : ℕ) (key : List ℕ) → code.Some key ≡ set_key ks j
    → (is_set ks j ≡ true) × (key ≡ part ks (key_size * j) key_size)
key_is ks j key h = let p = cond_some (is_set ks j) (part ks (key_size * j) key_size) key (sym h) in (p.0, sym p.1)

-- where the object that a credential names starts on the medium: `found` is that object
abbrev pub found_start : ScopeFacts → Credential → code.Option Object → ℕ
found_start s c found = c.partition * quarter s.size + (object_or_none (option_of found)).start

-- what the code works out before it judges, of the request's numbers r: the lengths of result and reply, the object that the
-- credential names, what rows 32 and 33 say of its bytes, the object that the frame reaches, and where a new extent would start
pub record Prepared (s : ScopeFacts) (t m : List ℕ) (c : Credential) (r : Request) (n whole : ℕ) (found : code.Option Object)
    (listed : code.Result (Unit {0}) Refusal) (target : code.Option Object) (place : code.Option ℕ) : Type 0 where
  pub result : n ≡ result_length r
  pub reply : whole ≡ head_size + n + cond (r.level is 2) digest_size 0
  pub named : option_of found ≡ find Object.number c.object (objects_in t)
  pub list : answer_row listed ≡ list_row (part m (found_start s c found) (object_or_none (option_of found)).size) r
  pub reached : option_of target ≡ find Object.number (target_of c r) (objects_in t)
  pub placed : option_of place ≡ placement_for (quarter s.size) (objects_in t) r

module _ {s : ScopeFacts} {ks t : List ℕ} {l : List Entry} {m f : List ℕ} {c : Credential} {request : ParsedRequest}
    (w : AdmitRequires s ks t l m f c request) where
  abbrev y : Fields
  y = fields f

  abbrev S : Scope Object
  S = scope_from s ks t l

  c_is : c ≡ y.cred
  c_is = parsed-credential w.parsed

  request_is : numbers_of request ≡ y.req
  request_is = parsed-request w.parsed

  name_is : operation_of y ≡ request.operation
  name_is = ap operation (sym request_is) ∙ numbers-operation request

  -- ---- the object that the credential names, or nothing, lies on the medium
  pub inside-medium : (found : code.Option Object) → option_of found ≡ find Object.number c.object (objects_in t)
      → found_start s c found + (object_or_none (option_of found)).size ≤ length m
  unfolding partition_in
  inside-medium found named =
      let Q : ℕ = quarter s.size in
      rw named (omega (
        arith,
        found_inside Q (partition_in t).last c.object (objects_in t) (partition_is Q (partition_in t) w.sound).each,
        quarter_in s.size c.partition (in_four w.parsed),
        w.size,
      ))

  -- ---- row 7, by what the operation needs
  needed : need_of S y.cred y.req ≡ need_under (needs_in t) c.slot (numbers_of request).operation
  unfolding need_of partition_in
  needed = rw (c_is, request_is) refl

  pub level_is : row7 S y.cred y.req
      ≡ low_level (need_under (needs_in t) c.slot (numbers_of request).operation) c (numbers_of request)
  unfolding row7
  level_is = rw (needed, ← c_is, ← request_is) refl

  -- ---- rows 7 and on, for a reply space
  module _ (space : List ℕ) where
    abbrev table : List Row
    table = drive_rows S m y space

    abbrev judged : List Row
    judged = scope_rows S y.cred y.req y.payload (group_bytes S y.cred m) (length space)

    abbrev from9 : List Row
    from9 = line 9 (row9 S y) ∷ judged

    abbrev from8 : List Row
    from8 = line 8 (row8 S y.cred) ∷ from9

    table_is : table ≡ line 7 (row7 S y.cred y.req) ∷ from8
    unfolding drive_rows
    table_is = refl

    pub seven : row7 S y.cred y.req ≡ true → first_row table ≡ 7
    seven low = ap first_row table_is ∙ row_here (line 7 (row7 S y.cred y.req)) from8 low

    past7 : row7 S y.cred y.req ≡ false → first_row table ≡ first_row from8
    past7 high = ap first_row table_is ∙ row_next (line 7 (row7 S y.cred y.req)) from8 high

    pub eight : row7 S y.cred y.req ≡ false → key_in (keys_in ks) c.partition c.slot ≡ none → first_row table ≡ 8
    unfolding row8 missing
    eight high unset =
        let r : row8 S y.cred ≡ true = rw (← c_is, unset) refl in
        past7 high ∙ row_here (line 8 (row8 S y.cred)) from9 r

  -- the key that the code found
  module _ {secret : List ℕ} (set : key_in (keys_in ks) c.partition c.slot ≡ some secret) where
    found_is : key_in (keys_in ks) y.cred.partition y.cred.slot ≡ some secret
    found_is = ap (λ (k : Credential). key_in (keys_in ks) k.partition k.slot) (sym c_is) ∙ set

    signing_is : signing (keys_in ks) y ≡ secret
    unfolding signing
    signing_is = rw found_is refl

    set_is : key_in (keys_in ks) y.cred.partition y.cred.slot ≡ some (signing (keys_in ks) y)
    set_is = found_is ∙ ap (λ (k : List ℕ). some k) (sym signing_is)

    pub credential-key : hmac secret y.credential ≡ credential_key (keys_in ks) y
    unfolding credential_key
    credential-key = ap (λ (k : List ℕ). hmac k y.credential) (sym signing_is)

    past8 : (space : List ℕ) → row7 S y.cred y.req ≡ false → first_row (table space) ≡ first_row (from9 space)
    unfolding row8 missing
    past8 space high =
        let r : row8 S y.cred ≡ false = rw found_is refl in
        past7 space high ∙ row_next (line 8 (row8 S y.cred)) (from9 space) r

    -- the digest compared
    module _ (space : List ℕ) (high : row7 S y.cred y.req ≡ false) (signed : Bool) (compared : signed ≡ same y.digest (hmac (credential_key (keys_in ks) y)
        (covered request.level y.credential y.request y.payload))) where
      row9_is : row9 S y ≡ not signed
      unfolding row9 digest_of numbers_of
      row9_is = ap not (ap (λ (l : ℕ). same y.digest (hmac (credential_key (keys_in ks) y)
          (covered l y.credential y.request y.payload))) (sym (ap Request.level request_is)) ∙ sym compared)

      pub nine : signed ≡ false → first_row (table space) ≡ 9
      nine h = past8 space high ∙ row_here (line 9 (row9 S y)) (judged space) (row9_is ∙ ap not h)

      pub from10 : signed ≡ true
          → first_row (table space) ≡ first_row (scope_rows S c (numbers_of request) y.payload (group_bytes S c m) (length space))
      from10 h =
          past8 space high ∙ row_next (line 9 (row9 S y)) (judged space) (row9_is ∙ ap not h)
          ∙ rw (c_is, request_is) refl

  -- ---- a refusal
  module _ (space : List ℕ) where
    pub refusal-given : (r : Outcome) (n : ℕ) → first_row (table space) ≡ n → (n ≡ 0 → ⊥)
        → r ≡ record { row = n; length = 0; key = 0; nextversion = 0; newstart = 0 }
        → OutcomeMet S m f space request.operation r m space
    unfolding scope_answer
    refusal-given r n first z e = record {
      row = ap Outcome.row e ∙ ap Answer.row (sym answer);
      length = ap Outcome.length e ∙ ap Answer.length (sym answer);
      medium = ap Answer.medium (sym answer);
      space = ap Answer.space (sym answer);
      set = λ k. absurd (z (sym (ap Outcome.row e) ∙ k));
      key = λ k. absurd (z (sym (ap Outcome.row e) ∙ k));
      fits = λ k. absurd (z (sym (ap Outcome.row e) ∙ k));
    }
      where
        answer : scope_answer S m y space ≡ refused n S m space
        answer = rw (first, ne_eqb n 0 z) refl

    -- ---- no row applies
    module _ (first : first_row (table space) ≡ 0) where
      clear : Clear f S m space
      unfolding frame_row
      clear = record { frame = parsed-row w.parsed; drive = first }

      answer : scope_answer S m y space ≡ granted S m y space
      unfolding scope_answer
      answer = rw first refl

      -- what a grant enters, and that there is room for it
      pub memory_entered : l ++ (entry c (numbers_of request) ∷ []) ≡ (scope_answer S m y space).drive.memory
      unfolding granted remember
      memory_entered = rw (answer, c_is, request_is) refl

      pub memory-room : length l < most_entries
      memory-room = room_left S (clear22 clear) (le-leb (length l) most_entries w.short)

      -- what it performs
      pub keys-performed : (scope_answer S m y space).drive.keys ≡ (perform request.operation S y m).scope.keys
      unfolding granted
      keys-performed = rw (answer, name_is) refl

      pub partition-performed : (scope_answer S m y space).drive.partition ≡ (perform request.operation S y m).scope.partition
      unfolding granted
      partition-performed = rw (answer, name_is) refl

-- ---- what is judged, and granted, of what the code worked out
module _ {s : ScopeFacts} {need : Need} {bad : Bool} {ks t : List ℕ} {l : List Entry} {m f : List ℕ} {c : Credential}
    {request : ParsedRequest} {r : Request} (v : ServeRequires s need bad ks t l m f c request r) where
  abbrev w : AdmitRequires s ks t l m f c request
  w = v.admits

  -- row 7 does not apply
  pub high : row7 (S w) (y w).cred (y w).req ≡ false
  high = level_is w ∙ rw (← v.numbers, ← v.needed) v.level

  module _ {n whole : ℕ} {found : code.Option Object} {listed : code.Result (Unit {0}) Refusal} {target : code.Option Object}
      {place : code.Option ℕ} (p : Prepared s t m c r n whole found listed target place) where
    whole_is : whole ≡ reply_length r
    unfolding reply_length
    whole_is = p.reply ∙ ap (λ (i : ℕ). head_size + i + cond (r.level is 2) digest_size 0) p.result

    r_is : r ≡ (y w).req
    r_is = v.numbers ∙ request_is w

    abbrev known : FrameFacts
    known = record {
      credential = c;
      request = r;
      need = need;
      badload = bad;
      found = found;
      listed = listed;
      target = target;
      place = place;
      length = whole;
    }

    -- what the judge knows
    pub judge-facts : FactsHold (S w) s (partition_in t) known (y w).payload (group_bytes (S w) c m)
    unfolding placement partition_in need_of extent_bytes extent_start object_of named_object
    judge-facts = record {
      marked = refl;
      own = refl;
      repeats = ap (row12 (S w) c) v.numbers ∙ w.replayed;
      entries = w.held;
      need = sym v.needed;
      load = sym v.load;
      list = sym (p.list ∙ rw p.named refl);
      named = p.named;
      reached = p.reached;
      placed = p.placed;
      whole = whole_is;
    }

    -- the grant
    module _ (space : List ℕ) (first : first_row (table w space) ≡ 0) where
      reached-y : option_of target ≡ find Object.number (reached_by (y w)) (S w).partition.objects
      unfolding partition_in
      reached-y = p.reached ∙ rw (c_is w, r_is) refl

      placed-y : option_of place ≡ cond ((y w).req.operation isnt 5) none (placement (S w) (y w).req.B)
      unfolding placement partition_in
      placed-y = p.placed ∙ ap (placement_for (quarter s.size) (objects_in t)) r_is

      pub granted-given : {secret : List ℕ} → key_in (keys_in ks) c.partition c.slot ≡ some secret
          → (j : ℕ) → j ≡ key_index c.slot c.partition
          → (k : GrantContext) → k ≡ grant_context s.size (partition_in t) c (target_of c (numbers_of request)) (option_of target)
          (option_of place)
          → (after replied : List ℕ) → after ≡ medium_after request.operation k (y w).payload m
          → (hash : Mac) → Keyed hash (credential_key (keys_in ks) (y w)) ((y w).credential ++ (y w).request)
          → replied ≡ reply_put hash r n request.operation k m space
          → OutcomeMet (S w) m f space request.operation
          (record { row = 0; length = whole; key = j; nextversion = k.nextversion; newstart = k.newstart }) after replied
      unfolding granted
      granted-given set j j-is k k_is after replied medium-e hash keyed reply-e = record {
        row = ap Answer.row (sym (answer w space first));
        length = whole_is ∙ ap reply_length r_is ∙ ap Answer.length (sym (answer w space first));
        medium = medium-e ∙ ap (λ (o : Operation). medium_after o k (y w).payload m) (sym (name_is w))
            ∙ medium_is (operation_of (y w)) (S w) (y w) m k fits bytes ∙ ap Answer.medium (sym (answer w space first));
        space = reply-e
            ∙ ap (λ (o : Operation). reply_put hash r n o k m space) (sym (name_is w))
            ∙ ap (λ (b : Request). reply_put hash b n (operation_of (y w)) k m space) r_is
            ∙ reply_is (operation_of (y w)) (S w) (y w) m k fits bytes n n_is space room hash keyed ∙ ap Answer.space (sym (answer w space first));
        set = λ z. set_is w set;
        key = λ z. j-is ∙ ap (λ (h : Credential). key_index h.slot h.partition) (c_is w);
        fits = λ z. changes;
      }
        where
          there : k ≡ grant_context s.size (S w).partition (y w).cred (reached_by (y w)) (option_of target) (option_of place)
          there = k_is ∙ rw (c_is w, request_is w) refl

          fits : ContextFits (operation_of (y w)) (S w) (y w).cred (reached_by (y w)) k
          fits = subst (ContextFits (operation_of (y w)) (S w) (y w).cred (reached_by (y w))) (sym there)
              (context-fits (clear w space first) w.sound s.size refl w.size reached-y placed-y)

          bytes : BytesFit (operation_of (y w)) (S w) (y w) m
          bytes = bytes_fit (clear w space first) w.sound s.size refl w.size

          long : n ≡ result_length (y w).req
          long = p.result ∙ ap result_length r_is

          n_is : n ≡ length (perform (operation_of (y w)) (S w) (y w) m).result
          n_is = long ∙ result_long (clear w space first) w.sound s.size refl w.size

          room : head_size + n + cond ((y w).req.level is 2) digest_size 0 ≤ length space
          room = rw long (reply-room (clear w space first) w.sound s.size refl w.size)

          changes : ChangeFits request.operation (S w) k.nextversion k.newstart
          changes = subst (λ (o : Operation). ChangeFits o (S w) k.nextversion k.newstart) (name_is w)
              (subst (λ (h : GrantContext). ChangeFits (operation_of (y w)) (S w) h.nextversion h.newstart) (sym there)
              (change-fits (clear w space first) w.sound s.size refl w.size reached-y placed-y))
