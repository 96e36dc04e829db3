-- Demand 2, from the issuer to the reply check: what the issuer writes is read back, and a frame built from it passes rows 2 to 9
-- (`issues_back`, `authentic`); all of it (`demand2`).
use mathlib.Core.Path.{◌∙◌, ◌≡◌, ap, refl, sym}
use mathlib.Core.Bool.{Bool, cond, false, not, true}
use mathlib.Core.Option.{some}
use mathlib.Core.List.{[], ◌++◌, ◌∷◌, append-nil, List}
use Prim.Native.Nat.{ℕ}
use lib.ListN.{length, replicate, take}
use lib.Seq.{take_at}
use borrow.Author.Tests.{eqb-false, eqb-true}
use Rattle.lemmas.specs.Lists.{every, missing, part, same, splice}
use Rattle.lemmas.specs.Parts.{splice_front}
use Rattle.lemmas.specs.RowTable.{first_row, line, Row, row_next, rows-passed}
use Rattle.lemmas.specs.Same.{same_refl}
use Rattle.lemmas.specs.Tests.{◌is◌}
use Rattle.digest.specs.Hmac.{hmac}
use Rattle.rules.specs.declared.Credential.{Credential}
use Rattle.rules.specs.declared.Object.{Object}
use Rattle.rules.specs.Client.{build, build_rows, Built, built_length, frame_of, issue, Issued, issue_rows}
use Rattle.rules.specs.Demands.{AllOfDemand2, Authentic, IssuesBack}
use Rattle.rules.specs.Drive.{Drive, Keys, refresh}
use Rattle.rules.specs.Frame.{
  credential-read_back,
  credential_at,
  credential_bytes,
  credential_length,
  CredentialFits,
  credential_size,
  Fields,
  fields,
  key_size,
  length-credential,
  request_start,
}
use Rattle.rules.specs.Gate.{Call, gate}
use Rattle.rules.specs.Operations.{credential_key, digest_of, key_in, signing}
use Rattle.rules.specs.Rows.{drive_rows, frame_rows, group_bytes, row1, row7, row8, row9, rows, scope_rows}
use Rattle.rules.specs.Scope.{drive_scope, Scope}
use Rattle.rules.proofs.Answers.{exact, gate-row}
use Rattle.rules.proofs.RepliesBack.{replies_back}
use Rattle.rules.proofs.RoundTrip.{built-fields, length-issued, reads_back}

-- ---- a call that returned row 0 is one that no row refuses
pub build_zero : (a b p k s : List ℕ) → (build a b p k s).row ≡ 0 → first_row (build_rows a b p k s) ≡ 0
unfolding build
build_zero a b p k s e = go (first_row (build_rows a b p k s) is 0) refl e
  where
    go : (i : Bool) → (first_row (build_rows a b p k s) is 0) ≡ i
        → (cond {A = Built} i (record { row = 0; length = built_length a b; space = splice s 0 (frame_of a b p k) })
        (record { row = first_row (build_rows a b p k s); length = 0; space = s })).row ≡ 0
        → first_row (build_rows a b p k s) ≡ 0
    go true z h = eqb-true (first_row (build_rows a b p k s)) 0 z
    go false z h = h

issue_zero : (c : Credential) (k s : List ℕ) → (issue c k s).row ≡ 0
    → issue c k s ≡ record { row = 0; key = hmac k (credential_bytes c); space = splice s 0 (credential_bytes c) }
unfolding issue
issue_zero c k s e = go (first_row (issue_rows c k s) is 0) refl e
  where
    issued : Issued
    issued = record { row = 0; key = hmac k (credential_bytes c); space = splice s 0 (credential_bytes c) }

    refused : Issued
    refused = record { row = first_row (issue_rows c k s); key = replicate key_size 0; space = s }

    go : (i : Bool) → (first_row (issue_rows c k s) is 0) ≡ i → (cond i issued refused).row ≡ 0 → cond i issued refused ≡ issued
    go true z h = refl
    go false z h = absurd (eqb-false (first_row (issue_rows c k s)) 0 z h)

-- ---- a frame that begins with a credential's bytes
module _ (c : Credential) (fit : CredentialFits c) (rest : List ℕ) where
  cred_is : (fields (credential_bytes c ++ rest)).cred ≡ c
  unfolding fields
  cred_is = credential-read_back c [] rest fit

  bytes_are : (fields (credential_bytes c ++ rest)).credential ≡ credential_bytes c
  unfolding fields part
  bytes_are =
      take_at (credential_bytes c) rest (request_start (credential_bytes c ++ rest))
      (length-issued c ∙ ap credential_length (sym (credential-read_back c [] rest fit)))

  key_is : (keys : Keys) (k : List ℕ) → key_in keys c.partition c.slot ≡ some k
      → credential_key keys (fields (credential_bytes c ++ rest)) ≡ hmac k (credential_bytes c)
  unfolding credential_key signing
  key_is keys k e = rw (cred_is, bytes_are, e) refl

pub issues_back : (c : Credential) (k s : List ℕ) → CredentialFits c → (issue c k s).row ≡ 0 → IssuesBack c k s
issues_back c k s fit z = record {
  bytes = ap (λ (r : Issued). take credential_size r.space) (issue_zero c k s z)
      ∙ splice_front s (credential_bytes c) credential_size (length-credential c);
  read = ap (λ (l : List ℕ). credential_at l 0) (sym (append-nil (credential_bytes c))) ∙ credential-read_back c [] [] fit;
  cred = cred_is c fit;
  key = λ keys rest e. key_is c fit rest keys k e ∙ ap Issued.key (sym (issue_zero c k s z));
}

-- ---- a built frame whose key is its credential's
module _ (a b p k room : List ℕ) (g : first_row (build_rows a b p k room) ≡ 0) where
  abbrev f : List ℕ
  f = frame_of a b p k

  right_digest_lem : (keys : Keys) → credential_key keys (fields f) ≡ k → (fields f).digest ≡ digest_of keys (fields f)
  unfolding digest_of
  right_digest_lem keys e = rw (e, built-fields a b p k room g) refl

  pub passes_9 : (s : Scope Object) → credential_key s.keys (fields f) ≡ k → row9 s (fields f) ≡ false
  unfolding row9
  passes_9 s e =
      ap (λ (l : List ℕ). not (same l (digest_of s.keys (fields f)))) (right_digest_lem s.keys e)
      ∙ ap not (same_refl (digest_of s.keys (fields f)))

-- ---- under an issuer's credential and key
module _ (c : Credential) (k s b p room : List ℕ) (fit : CredentialFits c) (z : (issue c k s).row ≡ 0)
    (g : (build (credential_bytes c) b p (issue c k s).key room).row ≡ 0) where
  abbrev frame : List ℕ
  frame = frame_of (credential_bytes c) b p (issue c k s).key

  no_row : first_row (build_rows (credential_bytes c) b p (issue c k s).key room) ≡ 0
  no_row = build_zero (credential_bytes c) b p (issue c k s).key room g

  set : (t : Scope Object) → key_in t.keys c.partition c.slot ≡ some k → row8 t (fields frame).cred ≡ false
  unfolding row8 frame_of missing
  set t e = rw (cred_is c fit _, e) refl

  digest : (t : Scope Object) → key_in t.keys c.partition c.slot ≡ some k → row9 t (fields frame) ≡ false
  unfolding frame_of
  digest t e = passes_9 (credential_bytes c) b p (issue c k s).key room no_row t ((issues_back c k s fit z).key t.keys _ e)

  -- rows 2 to 6, 8 and 9 are passed over
  passed : (d : Drive) (m : List ℕ) (clock : ℕ) (space : List ℕ) → key_in d.tables.keys c.partition c.slot ≡ some k
      → first_row (frame_rows frame (fields frame) ++ drive_rows (drive_scope (refresh clock d) (fields frame).cred) m (fields frame) space)
      ≡ first_row (line 7 (row7 (drive_scope (refresh clock d) (fields frame).cred) (fields frame).cred (fields frame).req)
      ∷ scope_rows (drive_scope (refresh clock d) (fields frame).cred) (fields frame).cred (fields frame).req
      (fields frame).payload (group_bytes (drive_scope (refresh clock d) (fields frame).cred) (fields frame).cred m) (length space))
  unfolding drive_rows first_row frame_rows every refresh
  passed d m clock space e =
      let x : Fields = fields frame in
      let t : Scope Object = drive_scope (refresh clock d) x.cred in
      let later : List Row = scope_rows t x.cred x.req x.payload (group_bytes t x.cred m) (length space) in
      rows-passed (frame_rows frame x) (drive_rows t m x space) refl
      (reads_back (credential_bytes c) b p (issue c k s).key room no_row).accepted
      ∙ ap (cond (row7 t x.cred x.req) 7)
      (row_next (line 8 (row8 t x.cred)) (line 9 (row9 t x) ∷ later) (set t e)
      ∙ row_next (line 9 (row9 t x)) later (digest t e))

  row : (d : Drive) (m : List ℕ) (call : Call) → call.frame ≡ frame → key_in d.tables.keys c.partition c.slot ≡ some k
      → (gate d m call).row ≡ first_row (line 1 (row1 d m)
      ∷ line 7 (row7 (drive_scope (refresh call.clock d) (fields frame).cred) (fields frame).cred (fields frame).req)
      ∷ scope_rows (drive_scope (refresh call.clock d) (fields frame).cred) (fields frame).cred (fields frame).req
      (fields frame).payload (group_bytes (drive_scope (refresh call.clock d) (fields frame).cred) (fields frame).cred m)
      (length call.space))
  unfolding rows first_row
  row d m call h e =
      gate-row d m call
      ∙ ap (λ (f : List ℕ). first_row (rows d m f call.clock call.space)) h
      ∙ ap (cond (row1 d m) 1) (passed d m call.clock call.space e)

  pub authentic : Authentic c k frame
  authentic = record { set = set; digest = digest; row = row }

pub demand2 : AllOfDemand2
unfolding refresh
demand2 = record {
  exact = exact;
  issued = issues_back;
  authentic = authentic;
  built = λ a b p k s z. reads_back a b p k s (build_zero a b p k s z);
  replied = λ d m c a b p k s z e g h. replies_back d m c a b p k s (build_zero a b p k s z) e g h;
}
