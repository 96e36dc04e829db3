-- Laws of the client end's definitions, for the proofs of its code: what a row that is not 0 leaves, and what a row 0 does.
use Rattle.std.specs.Prelude.{Ok, Err}
use mathlib.Core.Path.{◌∙◌, ◌≡◌, ap, refl, sym}
use mathlib.Core.Bool.{◌||◌, Bool, cond, false, not, true}
use mathlib.Core.List.{[], ◌∷◌, ◌++◌, append_assoc, append-nil, List}
use Prim.Native.Nat.{◌+◌, ◌≤◌, ℕ}
use native.Mathlib.Omega.{arith}
use lib.Dec.{leb}
use lib.ListN.{length-append, take, length}
use borrow.Author.Tests.{eq-eqb, le-leb, le-ltb, leb-false, leb-true, lt-ltb, ltb-false, ne_eqb}
use Rattle.lemmas.specs.Layout.{splice_after_size}
use Rattle.lemmas.specs.Lists.{every, splice}
use Rattle.lemmas.specs.Parts.{length-splice, splice_front}
use Rattle.lemmas.specs.RowTable.{applies, first_row, line, none_applies, Row}
use Rattle.lemmas.specs.Tests.{◌is◌, ◌isnt◌, ◌under◌}
use Rattle.digest.specs.Hmac.{hmac}
use Rattle.rules.specs.declared.Credential.{Credential}
use Rattle.rules.specs.declared.Request.{Request}
use Rattle.rules.specs.declared.refusal.Refusal.{Refusal}
use Rattle.rules.specs.Client.{bad_records, build, build_rows, built_length, frame_of, issue, issue_rows, row26}
use Rattle.rules.specs.Frame.{covered, credential_at, credential_bytes, credential_length, credential_size, digest_size, length-credential, request_at}
use Rattle.rules.specs.Refusals.{refusal_row}
use Rattle.rules.proofs.Refused.{row_isnt_zero}
use Rattle.rules.proofs.RoundTrip.{credential_long, n_is, records, request_long}
use Rattle.octets.specs.Numbers.{bytes_put}
use Rattle.fields.specs.Records.{credential_in, request_in, rest_behind, rest_length}
use Rattle.record_rows.specs.BadRecords.{read_either, request_is_read}
use Rattle.credential_bytes.specs.Put.{credential_put}
use Rattle.client.specs.Answers.{built_frame, issued_of}
use Rattle.client.specs.Met.{BuildMet, IssueMet}

-- ---- bytes that do not fit have too little room
pub not_fits : (n len : ℕ) → not (leb n len) ≡ (len under n)
not_fits n len = go (leb n len) refl
  where
    go : (b : Bool) → leb n len ≡ b → not b ≡ (len under n)
    go true e = sym (le-ltb len n (leb-true n len e))
    go false e = sym (lt-ltb len n (leb-false n len e))

-- ---- what a frame's digest covers
pub covered-records : (key a b p : List ℕ) (level : ℕ) → level ≡ 0 → hmac key (a ++ b ++ []) ≡ hmac key (covered level a b p)
unfolding covered
covered-records key a b p level e = rw (eq-eqb level 0 e) (ap (hmac key) (append-nil (a ++ b)))

pub covered_data : (key a b p : List ℕ) (level : ℕ) → (level ≡ 0 → ⊥) → hmac key (a ++ b ++ p) ≡ hmac key (covered level a b p)
unfolding covered
covered_data key a b p level e = rw (ne_eqb level 0 e) (ap (hmac key) (append_assoc a b p))

-- ---- four parts copied one after the other
put_fits : (s : List ℕ) (i : ℕ) (b : List ℕ) → i + length b ≤ length s → bytes_put s i b ≡ splice s i b
put_fits s i b h = rw (le-leb (i + length b) (length s) h) refl

pub four-parts : (s a b p h : List ℕ) → length h ≡ digest_size → length a + length b + length p + digest_size ≤ length s
    → bytes_put (bytes_put (bytes_put (bytes_put s 0 a) (length a) b) (length a + length b) p) (length a + length b + length p) h
    ≡ splice s 0 (a ++ (b ++ (p ++ h)))
four-parts s a b p h lh room =
    let n1 : ℕ = length a in
    let n2 : ℕ = length a + length b in
    let n3 : ℕ = length a + length b + length p in
    let e1 : bytes_put s 0 a ≡ splice s 0 a = put_fits s 0 a (omega arith) in
    let l1 : length (splice s 0 a) ≡ length s = length-splice s a 0 (omega arith) in
    let e2 : bytes_put (splice s 0 a) n1 b ≡ splice s 0 (a ++ b) =
    put_fits (splice s 0 a) n1 b (omega arith) ∙ splice_after_size s a b 0 n1 (omega arith) (omega arith) in
    let m2 : length (a ++ b) ≡ n2 = length-append a b in
    let l2 : length (splice s 0 (a ++ b)) ≡ length s = length-splice s (a ++ b) 0 (omega arith) in
    let e3 : bytes_put (splice s 0 (a ++ b)) n2 p ≡ splice s 0 (a ++ b ++ p) =
    put_fits (splice s 0 (a ++ b)) n2 p (omega arith) ∙ splice_after_size s (a ++ b) p 0 n2 (omega arith) (omega arith) in
    let m3 : length (a ++ b ++ p) ≡ n3 = length-append (a ++ b) p ∙ rw m2 refl in
    let l3 : length (splice s 0 (a ++ b ++ p)) ≡ length s = length-splice s (a ++ b ++ p) 0 (omega arith) in
    let e4 : bytes_put (splice s 0 (a ++ b ++ p)) n3 h ≡ splice s 0 (a ++ b ++ p ++ h) =
    put_fits (splice s 0 (a ++ b ++ p)) n3 h (omega arith)
    ∙ splice_after_size s (a ++ b ++ p) h 0 n3 (omega arith) (omega arith) in
    rw (e1, e2, e3) e4
    ∙ ap (splice s 0) (append_assoc (a ++ b) p h ∙ append_assoc a b (p ++ h))

-- ---- the issuer
module _ (c : Credential) (k s : List ℕ) where
  pub issue-refused : (e : Refusal) → refusal_row e ≡ first_row (issue_rows c k s) → IssueMet c k s (issued_of (Err e)) s
  unfolding issue
  issue-refused e row =
      let late : (first_row (issue_rows c k s) is 0) ≡ false = rw (← row) (row_isnt_zero e) in
      record { row = rw late row; key = rw late refl; space = rw late refl }

  issue-clear : first_row (issue_rows c k s) ≡ 0 → credential_size ≤ length s
  unfolding issue_rows applies every
  issue-clear e = ltb-false (length s) credential_size (none_applies (issue_rows c k s) refl e 29)

  pub issue-room : first_row (issue_rows c k s) ≡ 0 → credential_size ≤ length (credential_put s c)
  issue-room e =
      let h : credential_size ≤ length s = issue-clear e in
      rw (le-leb credential_size (length s) h) (omega (arith, length-splice s (credential_bytes c) 0 (omega (arith, length-credential c)), h))

  pub issue-granted : (secret : List ℕ) → first_row (issue_rows c k s) ≡ 0
      → secret ≡ hmac k (take credential_size (credential_put s c)) → IssueMet c k s (issued_of (Ok secret)) (credential_put s c)
  unfolding issue
  issue-granted secret e hk =
      let put : credential_put s c ≡ splice s 0 (credential_bytes c) = rw (le-leb credential_size (length s) (issue-clear e)) refl in
      let front : take credential_size (splice s 0 (credential_bytes c)) ≡ credential_bytes c = splice_front s (credential_bytes c) credential_size (length-credential c) in
      record {
        row = rw e refl;
        key = hk ∙ ap (λ (l : List ℕ). hmac k (take credential_size l)) put ∙ ap (hmac k) front ∙ rw e refl;
        space = put ∙ rw e refl;
      }

-- ---- the builder
-- rows 28 and 29, of n bytes of data and a space of so many: credential and request may be read either way
pub late_rows : (a b : List ℕ) (n space : ℕ)
    → cond {A = ℕ} (bad_records a b || (request_in b 0).n isnt n) 28
    (cond (not (leb (credential_length (credential_in a 0) + rest_length (request_in b 0)) space)) 29 0)
    ≡ cond (bad_records a b || (request_at b 0).n isnt n) 28 (cond (space under built_length a b) 29 0)
late_rows a b n space =
    let k : ℕ = credential_length (credential_at a 0) in
    let r : Request = request_at b 0 in
    read_either a b (λ (bad : Bool) (c : Credential) (q : Request). cond {A = ℕ} (bad || q.n isnt n) 28
    (cond (not (leb (credential_length c + rest_length q) space)) 29 0)) (λ c d q r. refl)
    ∙ ap (λ (t : Bool). cond {A = ℕ} (bad_records a b || r.n isnt n) 28 (cond t 29 0))
    (not_fits (k + rest_length r) space ∙ ap (λ (m : ℕ). space under m) (rest_behind k r))

module _ (a b p k s : List ℕ) where
  -- the three rows, of both as they were read
  abbrev pub rows_read : List Row
  rows_read =
      line 26 (row26 k)
      ∷ line 28 (bad_records a b || (request_in b 0).n isnt length p)
      ∷ line 29 (not (leb (credential_length (credential_in a 0) + rest_length (request_in b 0)) (length s)))
      ∷ []

  pub rows_are_read : first_row rows_read ≡ first_row (build_rows a b p k s)
  unfolding build_rows first_row
  rows_are_read = ap (cond (row26 k) 26) (late_rows a b (length p) (length s))

  pub build-refused : (e : Refusal) → refusal_row e ≡ first_row (build_rows a b p k s) → BuildMet a b p k s (built_frame (Err e)) s
  unfolding build
  build-refused e row =
      let late : (first_row (build_rows a b p k s) is 0) ≡ false = rw (← row) (row_isnt_zero e) in
      record { row = rw late row; length = rw late refl; space = rw late refl }

  -- the parts are together as long as the frame
  pub build-length : first_row (build_rows a b p k s) ≡ 0 → length a + length b + length p + digest_size ≡ built_length a b
  build-length e = omega (arith, credential_long a b p k s e, request_long a b p k s e, n_is a b p k s e)

  pub build-granted : (n : ℕ) (h after : List ℕ) → first_row (build_rows a b p k s) ≡ 0
      → n ≡ length a + length b + length p + digest_size
      → h ≡ hmac k (covered (request_in b 0).level a b p) → after ≡ splice s 0 (a ++ (b ++ (p ++ h)))
      → BuildMet a b p k s (built_frame (Ok n)) after
  unfolding build frame_of
  build-granted n h after e hl hh ha = record {
    row = rw e refl;
    length = hl ∙ build-length e ∙ rw e refl;
    space = ha ∙ rw e (ap (λ (d : List ℕ). splice s 0 (a ++ (b ++ (p ++ d)))) (hh ∙ ap (λ (x : Request). hmac k (covered x.level a b p)) (request_is_read a b (records a b p k s e))));
  }
