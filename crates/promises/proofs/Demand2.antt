-- Demand 2 over the promises of the public calls: by the rules' own demand 2 on the same calls.
use mathlib.Core.Path.{◌∙◌, ◌≡◌, ap, subst, subst₂, sym}
use mathlib.Core.Bool.{false}
use mathlib.Core.List.{◌++◌, ◌∷◌, List}
use Prim.Native.Nat.{◌+◌, ◌-◌, ℕ}
use native.Mathlib.Omega.{arith}
use lib.ListN.{length, take}
use Rattle.lemmas.specs.RowTable.{first_row, line}
use Rattle.sha256_block.proofs.PaddingLaws.{padded_message}
use Rattle.rules.specs.Client.{build, check, Checked, frame_of, issue}
use Rattle.rules.specs.Demands as rules_demands
use Rattle.rules.specs.Drive.{refresh}
use Rattle.rules.specs.Frame.{credential_at, credential_bytes, CredentialFits, credential_size, fields, request_at}
use Rattle.rules.specs.Gate.{gate}
use Rattle.rules.specs.Operations.{credential_key, result_length}
use Rattle.rules.specs.Rows.{group_bytes, row1, row7, row8, row9, scope_rows}
use Rattle.rules.specs.Scope.{drive_scope}
use Rattle.rules.proofs.Demand2 as rules_proofs
use Rattle.drive.specs.Chain.{CallMade, DriveState}
use Rattle.drive.specs.View.{view}
use Rattle.client.proofs.RoundTrip.{built-accepted, built-frame, built-parsed}
use Rattle.rules.proofs.RoundTrip.{reads_back}
use Rattle.reply_check.specs.Met.{place_after}
use Rattle.promises.specs.Calls.{
  BuildKept,
  BuildMade,
  built_bytes,
  check_gave,
  CheckKept,
  CheckMade,
  issued_bytes,
  IssueKept,
  IssueMade,
}
use Rattle.promises.specs.Demand2.{Accepted, AllOfDemand2, BuiltFrom, Issues, Passes, ReadAsBuilt, Replied}

-- ---- the issuer
module _ (i : IssueMade) (m : IssueKept i) (z : i.answer.row ≡ 0) (fit : CredentialFits i.credential) where
  taken : (issue i.credential i.slot_key i.space).row ≡ 0
  taken = sym m.row ∙ z

  back : rules_demands.IssuesBack i.credential i.slot_key i.space
  back = (rules_proofs.demand2).issued i.credential i.slot_key i.space fit taken

  pub issued-bytes : issued_bytes i ≡ credential_bytes i.credential
  issued-bytes = ap (take credential_size) m.space ∙ back.bytes

  pub issues : Issues i
  issues = record {
    read = ap (λ (l : List ℕ). credential_at l 0) issued-bytes ∙ back.read;
    cred = λ rest. ap (λ (l : List ℕ). (fields (l ++ rest)).cred) issued-bytes ∙ back.cred rest;
    key = λ keys rest e.
        ap (λ (l : List ℕ). credential_key keys (fields (l ++ rest))) issued-bytes ∙ back.key keys rest e ∙ sym m.key;
  }

  -- ---- a frame built from what it wrote and returned
  module _ (b : BuildMade) (n : BuildKept b) (y : b.answer.row ≡ 0) (from : BuiltFrom i b) where
    abbrev key : List ℕ
    key = (issue i.credential i.slot_key i.space).key

    abbrev frame : List ℕ
    frame = frame_of (credential_bytes i.credential) b.request b.payload key

    same_credential : b.credential ≡ credential_bytes i.credential
    same_credential = from.credential ∙ issued-bytes

    same_key_lem : b.key ≡ key
    same_key_lem = from.key ∙ m.key

    authentic : rules_demands.Authentic i.credential i.slot_key frame
    authentic =
        (rules_proofs.demand2).authentic i.credential i.slot_key i.space b.request b.payload b.space fit taken
        (subst₂ (λ (a k : List ℕ). (build a b.request b.payload k b.space).row ≡ 0) same_credential same_key_lem (sym n.row ∙ y))

    frame_is : built_bytes b ≡ frame
    frame_is =
        built-frame b.credential b.request b.payload b.key b.space b.answer b.after n y
        ∙ (λ j. frame_of (same_credential j) b.request b.payload (same_key_lem j))

    pub passes : Passes i b
    passes = record {
      set = λ t e. subst (λ (f : List ℕ). row8 t (fields f).cred ≡ false) (sym frame_is) (authentic.set t e);
      digest = λ t e. subst (λ (f : List ℕ). row9 t (fields f) ≡ false) (sym frame_is) (authentic.digest t e);
      row = λ s c g h e.
          g.row
          ∙ subst (λ (f : List ℕ). (gate (view s.drive) s.medium c.call).row
          ≡ first_row (line 1 (row1 (view s.drive) s.medium)
          ∷ line 7 (row7 (drive_scope (refresh c.call.clock (view s.drive)) (fields f).cred) (fields f).cred (fields f).req)
          ∷ scope_rows (drive_scope (refresh c.call.clock (view s.drive)) (fields f).cred) (fields f).cred (fields f).req
          (fields f).payload (group_bytes (drive_scope (refresh c.call.clock (view s.drive)) (fields f).cred) (fields f).cred s.medium)
          (length c.call.space)))
          (sym frame_is) (authentic.row (view s.drive) s.medium c.call (h ∙ frame_is) e);
    }

-- ---- the builder
pub read_as_built : (b : BuildMade) → BuildKept b → b.answer.row ≡ 0 → ReadAsBuilt b
read_as_built b n y = record {
  fields = ap fields (built-frame b.credential b.request b.payload b.key b.space b.answer b.after n y)
      ∙ back.fields;
  parsed = built-parsed b.credential b.request b.payload b.key b.space b.answer b.after n y;
  level = back.level;
}
  where
    back : rules_demands.ReadsBack b.credential b.request b.payload b.key b.space
    back = reads_back b.credential b.request b.payload b.key b.space
        (built-accepted b.credential b.request b.payload b.key b.space b.answer b.after n y)

-- ---- the reply check
back_again : (o n : ℕ) → o + n - o ≡ n
back_again o n = omega arith

part-start : (k : CheckMade) → CheckKept k → (check_gave k).start ≡ (check k.credential k.request k.key k.reply.now).start
part-start k m =
    ap (λ (p : ℕ × ℕ). p.1 - k.reply.ref_ptr.1) m.start
    ∙ back_again k.reply.ref_ptr.1 (check k.credential k.request k.key k.reply.now).start

pub accepted : (b : BuildMade) (s : DriveState) (c : CallMade) (k : CheckMade) → Replied b s c k → Accepted s c k
accepted b s c k h =
    let frame_is = h.frame ∙ built-frame b.credential b.request b.payload b.key b.space b.answer b.after h.built h.row in
    let back = (rules_proofs.demand2).replied (view s.drive) s.medium c.call b.credential b.request b.payload b.key b.space
    (sym h.built.row ∙ h.row) frame_is (sym h.call.row ∙ h.granted) h.key in
    let reply : k.reply.now ≡ take (gate (view s.drive) s.medium c.call).length (gate (view s.drive) s.medium c.call).space
    = h.reply ∙ (λ j. take (h.call.length j) (h.call.space j)) in
    let t = (λ j. check (h.credential j) (h.request j) (h.same_key j) (reply j)) ∙ back.accepted in
    record {
      row = h.check.row ∙ ap Checked.row t;
      start = h.check.start ∙ ap (λ (x : Checked). place_after k.reply x.start) t;
      length = h.check.length ∙ ap Checked.length t ∙ ap (λ (r : List ℕ). result_length (request_at r 0)) (sym h.request);
      result = h.check.result ∙ ap Checked.result t;
    }

pub demand2 : AllOfDemand2
demand2 = record {
  format = λ f m j. record { row = m.row j; drive = m.drive j; medium = m.medium j };
  gate = λ s c m j. record { row = m.row j; length = m.length j; drive = m.drive j; medium = m.medium j; space = m.space j };
  issue = λ i m j. record { row = m.row j; key = m.key j; space = m.space j };
  build = λ b m j. record { row = m.row j; length = m.length j; space = m.space j };
  check = λ k m j. record { row = m.row j; start = part-start k m j; length = m.length j; result = m.result j };
  padding = padded_message;
  part = λ k m. m.start ∙ ap (place_after k.reply) (sym (part-start k m));
  granted = λ s c m.
      let e = ((rules_proofs.demand2).exact (view s.drive) s.medium c.call).grants in
      (λ g. e.0 (sym m.row ∙ g), λ h. m.row ∙ e.1 h);
  issued = issues;
  passes = λ i b m z fit n y from. passes i m z fit b n y from;
  built = read_as_built;
  replied = accepted;
}
