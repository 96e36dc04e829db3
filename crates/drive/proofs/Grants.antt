-- A frame that no row refuses: where its grant works, and that there is room for all that it does.
-- f: the frame. s: the scope. m: the medium, of M bytes.
use mathlib.Core.Path.{◌≡◌, refl, sym, ap, ◌∙◌}
use mathlib.Core.Option
use mathlib.Core.Option.{Option, none, some}
use mathlib.Core.List.{List, [], ◌∷◌}
use mathlib.Core.Bool.{Bool, true, false, cond}
use Prim.Native.Nat.{ℕ, ◌+◌, ◌*◌, ◌≤◌}
use native.Mathlib.Omega.{arith}
use lib.ListN.{length, get_or}
use borrow.Author.Tests.{eqb-false, ltb-false, ne_eqb}
use Rattle.lemmas.specs.Lists.{every, find}
use Rattle.lemmas.specs.Tests.{◌is◌, ◌isnt◌, and_l, and_r, and_rest_false}
use Rattle.lemmas.specs.Parts.{length_part}
use Rattle.rules.specs.declared.Object.{Object}
use Rattle.rules.specs.declared.Operation.{Operation}
use Rattle.rules.specs.declared.Operation.TheVariants.{Read, Write, Look, Raise, Create, Delete, SetKey, LoadTable}
use Rattle.rules.specs.Frame.{Fields, fields, digest_size, operation, operation_of}
use Rattle.rules.specs.Drive.{quarter, last_version, sound_object}
use Rattle.rules.specs.Scope.{Scope}
use Rattle.rules.specs.Operations.{
  named_object,
  no_object,
  object_of,
  present_version,
  extent_start,
  placement,
  placement_start,
  next_version,
  head_size,
  result_length,
  reply_length,
  perform,
}
use Rattle.rules.specs.Rows.{is_transfer, gives_version, row21}
use Rattle.rules.proofs.Holds.{quarter_in, Grant}
use Rattle.rules.proofs.Sound.{object_is, SoundScope}
use Rattle.rules.proofs.RepliesBack.{sound-named}
use Rattle.rules.proofs.Shown.{result-length}
use Rattle.rules.proofs.Clear.{Clear, asks_for, clear21, clear23, in_four, known_operation, in_object, read_moves, write_moves, grant}
use Rattle.wire.specs.declared.ParsedRequest.{ParsedRequest}
use Rattle.wire.specs.Parse.{operation_number, first_number, second_number, numbers_of}
use Rattle.effect.specs.declared.GrantContext.{GrantContext}
use Rattle.effect.specs.Effect.{next_version_of}
use Rattle.effect.specs.Performed.{ContextFits, BytesFit, reached_by}
use Rattle.partition.specs.Applied.{ChangeFits}
use Rattle.drive.specs.Admission.{grant_context}

-- the operation of a parsed request's numbers is its own
pub numbers-operation : (request : ParsedRequest) → operation (numbers_of request) ≡ request.operation
unfolding operation numbers_of
numbers-operation request = go request.operation
  where
    go : (o : Operation) → get_or (Look ∷ Read (first_number o) (second_number o) ∷ Write (first_number o) (second_number o)
        ∷ Look ∷ Raise ∷ Create (first_number o) (second_number o) ∷ Delete ∷ SetKey (first_number o)
        ∷ LoadTable ∷ []) (operation_number o) Look ≡ o
    go (Read a b) = refl
    go (Write a b) = refl
    go Look = refl
    go Raise = refl
    go (Create number size) = refl
    go Delete = refl
    go (SetKey target) = refl
    go LoadTable = refl

-- what a number names among sound objects lies in the quarter, also where it names none
pub found_inside : (q last n : ℕ) (l : List Object) → every (sound_object q last) l ≡ true
    → (Option.get_or (find Object.number n l) no_object).start + (Option.get_or (find Object.number n l) no_object).size ≤ q
unfolding find every
found_inside q last n [] h = omega arith
found_inside q last n (a ∷ l) h =
    go (a.number is n) (found_inside q last n l (and_r (sound_object q last a) (every (sound_object q last) l) h))
  where
    go : (b : Bool)
        → (Option.get_or (find Object.number n l) no_object).start + (Option.get_or (find Object.number n l) no_object).size ≤ q
        → (Option.get_or (cond b (some a) (find Object.number n l)) no_object).start
        + (Option.get_or (cond b (some a) (find Object.number n l)) no_object).size ≤ q
    go true k = (object_is q last a (and_l (sound_object q last a) (every (sound_object q last) l) h)).inside
    go false k = k

module _ {f : List ℕ} {s : Scope Object} {m space : List ℕ} (g : Clear f s m space) (sound-s : SoundScope s) (M : ℕ)
    (q-is : s.quarter ≡ quarter M) (size : length m ≡ M) where
  abbrev x : Fields
  x = fields f

  in_medium : x.cred.partition * s.quarter + s.quarter ≤ length m
  in_medium = rw (q-is, size) (quarter_in M x.cred.partition (in_four g))

  granting : Grant (operation_of x) s x
  granting = grant g sound-s

  in_extent : is_transfer x.req ≡ true → extent_start s x.cred (reached_by x) + (object_of s (reached_by x)).size ≤ length m
  unfolding extent_start
  in_extent h = omega (arith, (sound-named g sound-s h).inside, in_medium)

  pub bytes_fit : BytesFit (operation_of x) s x m
  bytes_fit = record {
    read = λ a b o.
        let k = asks_for x.req (Read a b) o in
        omega (arith, in_extent (read_moves g o), in_object g (read_moves g o), k.1, k.2);
    extent = λ a b o. in_extent (write_moves g o);
    written = λ a b o. omega (arith, (granting.writes a b o).len, (granting.writes a b o).fits);
    cleared = λ a b o. omega (arith, (granting.creates a b o).place.inside, in_medium);
  }

  -- the result is as long as the request calls for, and the reply has room
  pub result_long : result_length x.req ≡ length (perform (operation_of x) s x m).result
  result_long = sym (result-length s x m (known_operation g).0 (known_operation g).1
      (λ a b o. length_part m (extent_start s x.cred (reached_by x) + a) b (bytes_fit.read a b o)))

  pub reply-room : head_size + result_length x.req + cond (x.req.level is 2) digest_size 0 ≤ length space
  unfolding reply_length
  reply-room = ltb-false (length space) (reply_length x.req) (clear23 g)

  -- the next version is one more: row 21 refused the last
  next_is : gives_version x.req ≡ true → next_version_of s.partition.last ≡ next_version s.partition
  unfolding row21
  next_is h = rw (ne_eqb s.partition.last last_version (eqb-false s.partition.last last_version
      (and_rest_false (gives_version x.req) (s.partition.last is last_version) h (clear21 g)))) refl

  -- where the grant works: `target` is the object that the frame reaches, `place` a new extent's
  module _ {target : Option Object} (reached : target ≡ find Object.number (reached_by x) s.partition.objects) {place : Option ℕ}
      (placed : place ≡ cond (x.req.operation isnt 5) none (placement s x.req.B)) where
    abbrev context : GrantContext
    context = grant_context M s.partition x.cred (reached_by x) target place

    pub context-fits : ContextFits (operation_of x) s x.cred (reached_by x) context
    unfolding grant_context extent_start object_of named_object present_version placement_start
    context-fits = record {
      quarter = rw (← q-is) refl;
      start = rw (← q-is, reached) refl;
      size = rw reached refl;
      looksize = rw (← q-is, reached) refl;
      version = rw reached refl;
      raised = λ o. next_is (rw (asks_for x.req Raise o) refl);
      created = λ a b o. next_is (rw (asks_for x.req (Create a b) o).0 refl);
      placed = λ a b o.
          let k = asks_for x.req (Create a b) o in
          let e : place ≡ placement s b = placed ∙ rw (k.0, k.2) refl in
          ap (λ (p : Option ℕ). Option.get_or p 0) e;
    }

    pub change-fits : ChangeFits (operation_of x) s context.nextversion context.newstart
    change-fits = record {
      raised = context-fits.raised;
      created = context-fits.created;
      placed = context-fits.placed;
      room = λ a b o. (granting.creates a b o).room;
    }
