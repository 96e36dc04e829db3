-- Demand 2: what the builder writes, the gate reads as the same fields.
use mathlib.Core.Path.{◌∙◌, ◌≡◌, ap, refl, sym}
use mathlib.Core.Bool.{false}
use mathlib.Core.List.{◌++◌, List}
use Prim.Native.Nat.{◌+◌, ◌≤◌, ℕ}
use native.Mathlib.Omega.{arith}
use lib.ListN.{drop, get_or, length, length-append}
use lib.Seq.{drop_at, drop-drop, take_all, take_at}
use borrow.Author.Tests.{eq-eqb, eqb-true, le-ltb, ltb-false, not-false}
use Rattle.lemmas.specs.Lists.{every, part, splice}
use Rattle.lemmas.specs.RowTable.{applies, first_row, none_applies}
use Rattle.lemmas.specs.Tests.{◌is◌, ◌isnt◌, none_of, or_l, or_r}
use Rattle.rules.specs.declared.Credential.{Credential}
use Rattle.rules.specs.declared.Request.{Request}
use Rattle.rules.specs.Client.{bad_records, build, build_rows, built_length, frame_of, record_faults, row26}
use Rattle.rules.specs.Demands.{built_frame, ReadsBack}
use Rattle.digest.specs.Hmac.{hmac}
use Rattle.digest.specs.DigestLaws.{length-hmac}
use Rattle.rules.specs.Frame.{
  covered,
  credential_in-front,
  credential_at,
  credential_bytes,
  credential_length,
  credential_size,
  digest_size,
  Fields,
  fields,
  length-credential,
  request_behind,
  request-least,
  request_at,
  request_length,
  request_start,
  starts_behind,
}
use Rattle.rules.specs.Rows.{frame_rows, least_frame, row2, row5}

-- ---- a credential's length by its form: the least of all forms, and that of the one that is issued
pub credential-least : (c : Credential) → credential_size ≤ credential_length c
unfolding credential_length
credential-least c = omega arith

pub length-issued : (c : Credential) → length (credential_bytes c) ≡ credential_length c
unfolding credential_length
length-issued c = length-credential c

-- ---- the fields of a frame whose request starts at place i
abbrev fields_from : ℕ → List ℕ → Fields
fields_from i f =
    let r = request_at f i in
    record {
      cred = credential_at f 0;
      req = r;
      credential = part f 0 i;
      request = part f i (request_length r);
      payload = part f (starts_behind i r).payload r.n;
      digest = part f (starts_behind i r).digest digest_size;
    }

-- ---- a frame put together from its parts has their fields. k: where its request starts
module _ (credential request payload digest : List ℕ) (k : ℕ) (hk : credential_length (credential_at credential 0) ≡ k)
    (hc : length credential ≡ k) (hr : length request ≡ request_length (request_at request 0)) where
  abbrev whole : List ℕ
  whole = credential ++ (request ++ (payload ++ digest))

  cred_same : credential_at whole 0 ≡ credential_at credential 0
  cred_same = credential_in-front credential (request ++ (payload ++ digest))
      (omega (arith, hc, hk, credential-least (credential_at credential 0)))

  start_is : request_start whole ≡ k
  start_is = ap credential_length cred_same ∙ hk

  req_same : request_at whole k ≡ request_at request 0
  req_same = request_behind credential request (payload ++ digest) k hc (omega (arith, hr))

  -- the parts themselves, the request being of n bytes and the data of j
  credential-part : part whole 0 k ≡ credential
  unfolding part
  credential-part = take_at credential (request ++ (payload ++ digest)) k hc

  request-part : (n : ℕ) → length request ≡ n → part whole k n ≡ request
  unfolding part
  request-part n h = rw (drop_at credential (request ++ (payload ++ digest)) k hc) (take_at request (payload ++ digest) n h)

  behind : (n : ℕ) → length request ≡ n → drop (k + n) whole ≡ payload ++ digest
  behind n h =
      sym (drop-drop n k whole)
      ∙ ap (drop n) (drop_at credential (request ++ (payload ++ digest)) k hc)
      ∙ drop_at request (payload ++ digest) n h

  payload-part : (n j : ℕ) → length request ≡ n → length payload ≡ j → part whole (k + n) j ≡ payload
  unfolding part
  payload-part n j h i = rw (behind n h) (take_at payload digest j i)

  digest-part : (n j : ℕ) → length request ≡ n → length payload ≡ j → length digest ≡ digest_size
      → part whole (k + n + j) digest_size ≡ digest
  unfolding part
  digest-part n j h i l =
      rw (sym (drop-drop j (k + n) whole) ∙ ap (drop j) (behind n h) ∙ drop_at payload digest j i)
      (take_all digest_size digest (omega arith))

  -- all of it
  whole_fields : length digest ≡ digest_size → length payload ≡ (request_at request 0).n → fields whole ≡ record {
    cred = credential_at credential 0;
    req = request_at request 0;
    credential = credential;
    request = request;
    payload = payload;
    digest = digest;
  }
  unfolding fields
  whole_fields l h =
      let r : Request = request_at whole k in
      let n : length request ≡ request_length r = hr ∙ ap request_length (sym req_same) in
      let j : length payload ≡ r.n = h ∙ ap Request.n (sym req_same) in
      ap (λ (i : ℕ). fields_from i whole) start_is
      ∙ (λ i. record {
        cred = cred_same i;
        req = req_same i;
        credential = credential-part i;
        request = request-part (request_length r) n i;
        payload = payload-part (request_length r) r.n n j i;
        digest = digest-part (request_length r) r.n n j l i;
      })

-- ---- what the builder accepts
module _ (credential request payload key space : List ℕ)
    (g : first_row (build_rows credential request payload key space) ≡ 0) where
  abbrev c : Credential
  c = credential_at credential 0

  abbrev r : Request
  r = request_at request 0

  clear : (n : ℕ) → applies n (build_rows credential request payload key space) ≡ false
  unfolding build_rows every
  clear n = none_applies (build_rows credential request payload key space) refl g n

  pub key_long : row26 key ≡ false
  unfolding build_rows applies
  key_long = clear 26

  pub records : bad_records credential request ≡ false
  unfolding build_rows applies
  records = or_l (bad_records credential request) (r.n isnt length payload) (clear 28)

  pub n_is : length payload ≡ r.n
  unfolding build_rows applies
  n_is = sym (eqb-true r.n (length payload) (not-false (r.n is length payload)
      (or_r (bad_records credential request) (r.n isnt length payload) (clear 28))))

  pub frame-room : built_length credential request ≤ length space
  unfolding build_rows applies
  frame-room = ltb-false (length space) (built_length credential request) (clear 29)

  fault : (k : ℕ) → get_or (record_faults credential request) k false ≡ false
  unfolding bad_records
  fault k = none_of (record_faults credential request) records k

  pub credential_long : length credential ≡ credential_length c
  credential_long = eqb-true (length credential) (credential_length c)
      (not-false (length credential is credential_length c) (fault 0))

  pub request_long : length request ≡ request_length r
  request_long = eqb-true (length request) (request_length r) (not-false (length request is request_length r) (fault 1))

  abbrev sealing : List ℕ
  sealing = hmac key (covered r.level credential request payload)

  abbrev f : List ℕ
  f = frame_of credential request payload key

  abbrev pub parts : Fields
  parts = record {
    cred = c;
    req = r;
    credential = credential;
    request = request;
    payload = payload;
    digest = sealing;
  }

  pub built-fields : fields f ≡ parts
  unfolding frame_of
  built-fields = whole_fields credential request payload sealing (credential_length c) refl credential_long request_long
      (length-hmac key (covered r.level credential request payload)) n_is

  starts : request_start f ≡ credential_length c
  unfolding frame_of
  starts = start_is credential request payload sealing (credential_length c) refl credential_long request_long

  length-frame : length f ≡ built_length credential request
  unfolding frame_of
  length-frame =
      simp (length-append) (omega (
        arith,
        credential_long,
        request_long,
        n_is,
        length-hmac key (covered r.level credential request payload),
      ))

  no_row : first_row (frame_rows f parts) ≡ 0
  unfolding frame_rows first_row
  no_row =
      let h2 : row2 f ≡ false =
      le-ltb (length f) least_frame (omega (arith, length-frame, request-least r, credential-least c)) in
      let h5 : row5 r f ≡ false = rw (fault 4, starts, eq-eqb (length f) (built_length credential request) length-frame) refl in
      rw (h2, fault 2, fault 3, h5, fault 5) refl

  written : built_frame (build credential request payload key space) ≡ f
  unfolding build splice
  written =
      rw (eq-eqb (first_row (build_rows credential request payload key space)) 0 g)
      (take_at f (drop (0 + length f) space) (built_length credential request) length-frame)

  pub reads_back : ReadsBack credential request payload key space
  reads_back = record {
    frame = written;
    accepted = rw built-fields no_row;
    level = fault 6;
    fields = built-fields;
  }
