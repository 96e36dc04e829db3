-- Laws of the parse's answer. For a caller: what each arm of `let Ok(p) = parse(f) else ..` knows.
use Rattle.std.specs.Prelude.{◌≡◌, ◌⊎◌, Bool, true, not, ◌||◌, cond, List, ℕ, ◌≤◌, ◌<◌, length, Option, Result, Ok, Err}
use Rattle.std.proofs.Math.Path.{refl}
use Rattle.std.proofs.Common.{sym, ◌∙◌, inl, inr, true≢false}
use Rattle.std.proofs.Math.Bool.{false}
use Rattle.std.specs.Result.{IsErrAnd}
use Rattle.std.proofs.lemmas.Result.{err_from_is_err_and}
use borrow.Author.Tests.{ltb-false, eqb-true, eqb-false, lt-ltb, le-ltb, not-false}
use Rattle.lemmas.specs.Tests.{◌is◌, ◌isnt◌, and_rest_false, or_cases, or_l, or_r, none_of}
use Rattle.lemmas.specs.Lists.{every}
use Rattle.lemmas.specs.RowTable.{first_row, applies, none_applies}
use Rattle.rules.specs.declared.Credential.{Credential}
use Rattle.rules.specs.declared.Request.{Request}
use Rattle.rules.specs.declared.PartStarts.{PartStarts}
use Rattle.rules.specs.Frame.{
  credential_at,
  credential_magic,
  fields,
  frame_length,
  frame_request,
  group_magic,
  is_group_request,
  part_starts,
  request_magic,
  request_start,
}
use Rattle.rules.specs.Rows.{least_frame, row6, outside_credential, request_faults, outside_request, misfits, frame_rows, wrong_data}
use Rattle.record_rows.specs.Refusals.{other_length, record_row, record_rows}
use Rattle.rules.specs.declared.Operation.{Operation}
use Rattle.wire.specs.declared.Parsed.{Parsed}
use Rattle.rules.specs.declared.refusal.Refusal.{Refusal}
use Rattle.rules.specs.Refusals.{answer_row, refusal_row}
use Rattle.wire.specs.Parse.{
  operation_number,
  first_number,
  second_number,
  reach_magic,
  reach_member,
  numbers_of,
  refused_by,
  fields_of,
  answer_of,
  answer_by,
  frame_row,
  frame_answer,
  records_answer,
  ArgumentsKept,
  Formed,
  MemberKept,
}

-- ---- for a caller
-- fields: no row from 2 to 6 applies, and they are the frame's
pub answered-fields : (f : List ℕ) (p : Parsed) → answer_of (Ok p) ≡ frame_answer f
    → (frame_row f ≡ 0) × (p.credential ≡ (fields f).cred) × (numbers_of p.request ≡ (fields f).req)
    × (p.request.starts ≡ part_starts f)
unfolding frame_answer answer_by
answered-fields f p e = go (frame_row f is 0) refl e
  where
    go : (b : Bool) → (frame_row f is 0) ≡ b
        → fields_of p.credential (numbers_of p.request) p.request.starts
        ≡ cond b (fields_of (fields f).cred (fields f).req (part_starts f)) (refused_by (frame_row f))
        → (frame_row f ≡ 0) × (p.credential ≡ (fields f).cred) × (numbers_of p.request ≡ (fields f).req)
        × (p.request.starts ≡ part_starts f)
    go true z e = (eqb-true (frame_row f) 0 z, cc, cc, cc)
    go false z e = (cc, cc, cc, cc)

-- a refusal: its row is the frame's, and not 0
pub answered-refused : (f : List ℕ) (refusal : Refusal) → answer_of (Err refusal) ≡ frame_answer f
    → (refusal_row refusal ≡ frame_row f) × (refusal_row refusal ≡ 0 → ⊥)
unfolding frame_answer answer_by
answered-refused f refusal e = go (refusal_row refusal) (frame_row f is 0) refl e
  where
    go : (row : ℕ) (b : Bool) → (frame_row f is 0) ≡ b
        → refused_by row ≡ cond b (fields_of (fields f).cred (fields f).req (part_starts f)) (refused_by (frame_row f))
        → (row ≡ frame_row f) × (row ≡ 0 → ⊥)
    go row true z e = (cc, λ h. let no : true ≡ false = cc in absurd (true≢false no))
    go row false z e = let r : row ≡ frame_row f = cc in (r, λ h. eqb-false (frame_row f) 0 z (sym r ∙ h))

-- either way, `row_of` gives the frame's row
pub answered-row : (f : List ℕ) (p : Result Parsed Refusal) → answer_of p ≡ frame_answer f → answer_row p ≡ frame_row f
answered-row f (Err refusal) e = (answered-refused f refusal e).0
answered-row f (Ok p) e = sym (answered-fields f p e).0

-- ---- for the parse itself: a short frame, and one with room for credential and request
pub answered_short : (f : List ℕ) → length f < least_frame → frame_answer f ≡ refused_by 2
unfolding frame_answer frame_row frame_rows first_row answer_by
answered_short f h = rw (lt-ltb (length f) least_frame h)

pub answered_long : (f : List ℕ) → least_frame ≤ length f
    → frame_answer f ≡ records_answer (credential_at f 0) (frame_request f) (request_start f) (length f)
unfolding frame_answer records_answer frame_row record_row frame_rows first_row fields
answered_long f h = rw (le-ltb (length f) least_frame h)

-- a refusal that is handed on is the answer
pub answered_by : (a : Result Parsed Refusal) (refusal : Refusal) → IsErrAnd a (λ e. e ≡ refusal)
    → answer_of a ≡ refused_by (refusal_row refusal)
answered_by a refusal h = let p = err_from_is_err_and a h in rw (p.1, p.2) refl

both_zero : (a b : ℕ) → (a isnt 0 || b isnt 0) ≡ false → (a ≡ 0) × (b ≡ 0)
both_zero a b e = (
  eqb-true a 0 (not-false (a is 0) (or_l (a isnt 0) (b isnt 0) e)),
  eqb-true b 0 (not-false (b is 0) (or_r (a isnt 0) (b isnt 0) e)),
)

-- no row from 3 to 6 applies
module _ (c : Credential) (r : Request) (at len : ℕ) (clear : record_row c r at len ≡ 0) where
  -- the test numbered k fails
  fails : (k : ℕ) → applies k (record_rows c r at len) ≡ false
  unfolding every record_row
  fails k = none_applies (record_rows c r at len) refl clear k

  -- mark and member are kept in what the request reaches
  pub member_kept : Formed r → MemberKept r.magic r.member
  unfolding applies
  member_kept formed = go (or_cases (r.magic is request_magic) (is_group_request r)
      (not-false (r.magic is request_magic || is_group_request r)
      (or_r (c.magic isnt credential_magic) (not (r.magic is request_magic || is_group_request r)) (fails 3))))
    where
      plain : r.magic ≡ request_magic → is_group_request r ≡ false
      plain e = rw e refl

      go : ((r.magic is request_magic) ≡ true) ⊎ (is_group_request r ≡ true) → MemberKept r.magic r.member
      go (inl e) = let k : r.magic ≡ request_magic = eqb-true r.magic request_magic e in inr (k, formed (plain k))
      go (inr e) = inl (eqb-true r.magic group_magic e)

  -- the frame is as long as its parts together
  pub length_kept : len ≡ frame_length at r
  unfolding applies
  length_kept =
      eqb-true len (frame_length at r)
      (not-false (len is frame_length at r) (or_r (wrong_data r) (other_length r at len) (fails 5)))

  within : outside_request r ≡ false
  unfolding applies
  within = or_r (outside_credential c) (outside_request r) (fails 4)

  fitting : row6 c r ≡ false
  unfolding applies
  fitting = fails 6

  -- A and B are 0 for operations 3, 4 and 6
  bare : (r.operation is 3 || r.operation is 4 || r.operation is 6) ≡ true → (r.A ≡ 0) × (r.B ≡ 0)
  bare h =
      both_zero r.A r.B
      (and_rest_false (r.operation is 3 || r.operation is 4 || r.operation is 6) (r.A isnt 0 || r.B isnt 0) h
      (none_of (misfits c r) fitting 4))

  -- and B is 0 for operation 7
  keyless : (r.operation is 7) ≡ true → r.B ≡ 0
  keyless h =
      eqb-true r.B 0
      (not-false (r.B is 0) (and_rest_false (r.operation is 7) (r.B isnt 0) h (none_of (misfits c r) fitting 6)))

  -- and both are 0 for operation 8
  bare-load : (r.operation is 8) ≡ true → (r.A ≡ 0) × (r.B ≡ 0)
  bare-load h =
      let named : Bool = c.slot isnt 2 || c.object isnt 0 || c.version isnt 0 in
      let e = and_rest_false (r.operation is 8) (named || r.A isnt 0 || r.B isnt 0) h
      (none_of (misfits c r) fitting 10) in (
        eqb-true r.A 0 (not-false (r.A is 0)
            (or_r named (r.A isnt 0) (or_l (named || r.A isnt 0) (r.B isnt 0) e))),
        eqb-true r.B 0 (not-false (r.B is 0) (or_r (named || r.A isnt 0) (r.B isnt 0) e)),
      )

  -- the operation's enum loses nothing
  pub arguments_kept : ArgumentsKept r.operation r.A r.B
  arguments_kept = record {
    low = ltb-false r.operation 1 (none_of (request_faults r) within 0);
    high = ltb-false 8 r.operation (none_of (request_faults r) within 1);
    look = λ h. bare (rw h);
    raise = λ h. bare (rw h);
    delete = λ h. bare (rw h);
    key = λ h. keyless (rw h);
    load = λ h. bare-load (rw h);
  }

  -- and neither does the parsed request
  pub numbers_kept : (o : Operation) (x : Option ℕ) (starts : PartStarts) → operation_number o ≡ r.operation
      → first_number o ≡ r.A → second_number o ≡ r.B → reach_magic x ≡ r.magic → reach_member x ≡ r.member
      → numbers_of (record {
        operation = o;
        member = x;
        level = r.level;
        time = r.time;
        count = r.count;
        n = r.n;
        starts = starts;
      }) ≡ r
  unfolding numbers_of
  numbers_kept o x starts e a b m k = λ i. record {
    magic = m i;
    operation = e i;
    level = r.level;
    time = r.time;
    count = r.count;
    A = a i;
    B = b i;
    n = r.n;
    member = k i;
  }
