-- Laws of the reply check's definitions, for the proofs of its code: rows 26 and 28, row 30, the result.
-- a, b: credential and request. k: the credential key. s: the reply.
use Rattle.std.proofs.Common.{◌∙◌, true≢false}
use Rattle.std.specs.Prelude.{◌≡◌, ◌&&◌, ◌||◌, Bool, [], List, ◌+◌, ◌≤◌, ℕ}
use Rattle.std.proofs.Math.Path.{ap, refl, sym}
use Rattle.std.proofs.Math.Bool.{cond, false, not, or-false, true}
use native.Mathlib.Omega.{arith}
use Rattle.std.proofs.Math.ListN.{length}
use borrow.Author.Tests.{eq-eqb, eqb-true, ne_eqb, not-false}
use Rattle.lemmas.specs.Lists.{every, part}
use Rattle.lemmas.specs.Parts.{length_part}
use Rattle.lemmas.specs.RowTable.{applies, first_row, none_applies}
use Rattle.lemmas.specs.Tests.{◌is◌, ◌isnt◌, ◌over◌, or_intro_r, or_l, or_r}
use Rattle.rules.specs.declared.Credential.{Credential}
use Rattle.rules.specs.declared.Request.{Request}
use Rattle.rules.specs.declared.refusal.Refusal.{Refusal}
use Rattle.rules.specs.Client.{bad_records, check, check_rows, most_result, row26, row30}
use Rattle.rules.specs.Frame.{digest_size, key_size, request_at}
use Rattle.rules.specs.Operations.{head_size, reply_length, result_length}
use Rattle.rules.specs.Refusals.{refusal_row}
use Rattle.rules.proofs.Refused.{row_isnt_zero}
use Rattle.fields.specs.Records.{request_in}
use Rattle.reply_check.specs.Met.{CheckMet, Slice, place_after}
use Rattle.reply_check.specs.Shape.{other_head, wrong_digest, wrong_reply, wrong_shape}
use Rattle.record_rows.specs.BadRecords.{read_either, request_is_read}

-- ---- rows 26 and 28 first, of a request read as r; then row 30
abbrev pub row28 : List ℕ → List ℕ → Request → Bool
row28 a b r = bad_records a b || result_length r over most_result

abbrev pub early_row : List ℕ → List ℕ → ℕ → Request → ℕ
early_row a b k r = cond (k isnt key_size) 26 (cond (row28 a b r) 28 0)

early_first : (t u v : Bool) (row : ℕ) → row ≡ cond t 26 (cond u 28 0) → (row ≡ 0 → ⊥)
    → row ≡ cond t 26 (cond u 28 (cond v 30 0))
early_first true u v row e n = e
early_first false true v row e n = e
early_first false false v row e n = absurd (n e)

early-clear : (t u : Bool) → ◌≡◌ {A = ℕ} (cond t 26 (cond u 28 0)) 0 → (t ≡ false) × (u ≡ false)
early-clear true u e = absurd (let z : ⊥ = omega arith in z)
early-clear false true e = absurd (let z : ⊥ = omega arith in z)
early-clear false false e = (refl, refl)

module _ (a b k s : List ℕ) where
  pub either_row : row28 a b (request_in b 0) ≡ row28 a b (request_at b 0)
  either_row =
      read_either a b (λ (bad : Bool) (c : Credential) (r : Request). bad || result_length r over most_result) (λ c d q r. refl)

  -- where row 28 doesn't refuse, row 30 is judged of the request as it was read
  pub row30_as_read : row28 a b (request_in b 0) ≡ false → wrong_reply a b k s (request_in b 0) ≡ row30 a b k s
  unfolding row30 wrong_reply wrong_shape
  row30_as_read e =
      ap (wrong_reply a b k s) (request_is_read a b (or_l (bad_records a b) (result_length (request_in b 0) over most_result) e))

  pub check-early : (row : ℕ) → row ≡ early_row a b (length k) (request_in b 0) → (row ≡ 0 → ⊥)
      → row ≡ first_row (check_rows a b k s)
  unfolding check_rows first_row
  check-early row e n =
      early_first (row26 k) (row28 a b (request_at b 0)) (row30 a b k s) row
      (e ∙ ap (λ (t : Bool). cond (row26 k) 26 (cond t 28 0)) either_row) n

  pub check_late : ◌≡◌ {A = ℕ} (early_row a b (length k) (request_in b 0)) 0
      → cond (wrong_reply a b k s (request_in b 0)) 30 0 ≡ first_row (check_rows a b k s)
  unfolding check_rows first_row
  check_late z =
      let clear = early-clear (row26 k) (row28 a b (request_in b 0)) z in
      ap (λ (t : Bool). cond t 30 0) (row30_as_read clear.1)
      ∙ sym (rw (clear.0, sym either_row ∙ clear.1) refl)

-- ---- a reply's head and length
module _ (s : List ℕ) (r : Request) where
  pub shape-length : wrong_shape s r ≡ false → length s ≡ reply_length r
  unfolding wrong_shape
  shape-length h =
      eqb-true (length s) (reply_length r)
      (not-false (length s is reply_length r) (or_r (other_head s r) (length s isnt reply_length r) h))

  pub shape-other : (length s ≡ reply_length r → ⊥) → true ≡ wrong_shape s r
  unfolding wrong_shape
  shape-other n =
      sym (or_intro_r (other_head s r) (length s isnt reply_length r) (ap not (ne_eqb (length s) (reply_length r) n)))

  pub shape_same : length s ≡ reply_length r → other_head s r ≡ wrong_shape s r
  unfolding wrong_shape
  shape_same e = sym (rw (eq-eqb (length s) (reply_length r) e) (or-false (other_head s r)))

  pub head-within : length s ≡ reply_length r → head_size + result_length r ≤ length s
  unfolding reply_length
  head-within e = omega arith

pub sealed-length : (r : Request) → r.level ≡ 2 → reply_length r ≡ head_size + result_length r + digest_size
unfolding reply_length
sealed-length r e = rw (eq-eqb r.level 2 e) refl

-- ---- what the check returns
module _ (a b k s : List ℕ) (z : first_row (check_rows a b k s) ≡ 0) where
  check-applies : (n : ℕ) → applies n (check_rows a b k s) ≡ false
  unfolding check_rows every
  check-applies n = none_applies (check_rows a b k s) refl z n

  read_whole : request_in b 0 ≡ request_at b 0
  unfolding check_rows applies
  read_whole =
      request_is_read a b (or_l (bad_records a b) (result_length (request_at b 0) over most_result) (check-applies 28))

  pub result-within : head_size + result_length (request_at b 0) ≤ length s
  unfolding check_rows applies row30 wrong_shape
  result-within =
      let r : Request = request_at b 0 in
      head-within s r (shape-length s r
      (or_l (wrong_shape s r) (r.level is 2 && wrong_digest a b k s (head_size + result_length r)) (check-applies 30)))

  pub check-end : head_size + result_length (request_in b 0) ≤ length s
  check-end = rw read_whole result-within

  -- the part of a reply after its head
  part_long : (n : ℕ) → n ≡ result_length (request_in b 0) → length (part s head_size n) ≡ result_length (request_at b 0)
  part_long n e = rw (e ∙ ap result_length read_whole) (length_part s head_size (result_length (request_at b 0)) result-within)

-- ---- the check's start, result and row
module _ (a b k s : List ℕ) where
  pub found-start : first_row (check_rows a b k s) ≡ 0 → (check a b k s).start ≡ head_size
  unfolding check
  found-start z = rw z refl

  pub found-result : first_row (check_rows a b k s) ≡ 0 → (check a b k s).result ≡ part s head_size (result_length (request_at b 0))
  unfolding check
  found-result z = rw z refl

  pub check-row_is : (check a b k s).row ≡ first_row (check_rows a b k s)
  unfolding check
  check-row_is = go (first_row (check_rows a b k s) is 0) refl
    where
      go : (i : Bool) → (first_row (check_rows a b k s) is 0) ≡ i → (check a b k s).row ≡ first_row (check_rows a b k s)
      go true e = rw (e) (sym (eqb-true (first_row (check_rows a b k s)) 0 e))
      go false e = rw e refl

  pub refused_none : (first_row (check_rows a b k s) ≡ 0 → ⊥) → ((check a b k s).start ≡ 0) × ((check a b k s).length ≡ 0)
  unfolding check
  refused_none n = let e = ne_eqb (first_row (check_rows a b k s)) 0 n in (rw e refl, rw e refl)

-- ---- the check's promise
module _ (a b k : List ℕ) (s p : Slice) where
  pub check-granted : (z : first_row (check_rows a b k s.now) ≡ 0) (n : ℕ) → n ≡ result_length (request_in b 0)
      → p.now ≡ part s.now head_size n → p.ref_ptr ≡ place_after s head_size
      → CheckMet a b k s 0 p
  unfolding check
  check-granted z n e h at = record {
    row = rw z refl;
    result = h ∙ ap (part s.now head_size) (e ∙ ap result_length (read_whole a b k s.now z)) ∙ sym (found-result a b k s.now z);
    start = at ∙ ap (place_after s) (sym (found-start a b k s.now z));
    length = ap length h ∙ part_long a b k s.now z n e ∙ rw z refl;
  }

  pub check-refused : (row : ℕ) → row ≡ first_row (check_rows a b k s.now) → (row ≡ 0 → ⊥)
      → p.now ≡ [] → p.ref_ptr ≡ place_after s 0
      → CheckMet a b k s row p
  unfolding check
  check-refused row e n h at = record {
    row = rw (← e, ne_eqb row 0 n) refl;
    result = h ∙ rw (← e, ne_eqb row 0 n) refl;
    start = at ∙ ap (place_after s) (sym (refused_none a b k s.now (λ z. n (e ∙ z))).0);
    length = ap length h ∙ rw (← e, ne_eqb row 0 n) refl;
  }

  pub check_refused_by : (e : Refusal) → refusal_row e ≡ first_row (check_rows a b k s.now)
      → p.now ≡ [] → p.ref_ptr ≡ place_after s 0
      → CheckMet a b k s (refusal_row e) p
  check_refused_by e row = check-refused (refusal_row e) row (λ (z : refusal_row e ≡ 0). true≢false (sym (eq-eqb (refusal_row e) 0 z) ∙ row_isnt_zero e))
