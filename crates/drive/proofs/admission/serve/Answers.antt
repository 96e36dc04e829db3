-- Row 8, row 9, the judged rows, the grant: each by its law of Admitting.
use mathlib.Core.Path.{◌≡◌, refl, sym, ap, subst, ◌∙◌}
use mathlib.Core.Bool.{Bool, true, false, cond}
use mathlib.Core.Option.{some}
use mathlib.Core.List.{List, ◌++◌}
use Prim.Native.Nat.{ℕ, ◌+◌, ◌*◌}
use native.Mathlib.Omega.{arith}
use lib.ListN.{length, take}
use Rattle.std.specs.Prelude as code
use Rattle.std.specs.Option.{option_copied}
use Rattle.lemmas.specs.Tests.{◌is◌}
use Rattle.lemmas.specs.Lists.{find, part, same}
use Rattle.lemmas.specs.Options.{option_of}
use Rattle.lemmas.specs.RowTable.{first_row}
use Rattle.digest.specs.declared.mac.Mac.{Mac}
use Rattle.digest.specs.Hmac.{hmac}
use Rattle.digest.specs.Keyed.{Keyed}
use Rattle.rules.specs.declared.Credential.{Credential}
use Rattle.rules.specs.declared.Entry.{Entry}
use Rattle.rules.specs.declared.Need.{Need}
use Rattle.rules.specs.declared.Object.{Object}
use Rattle.rules.specs.declared.Request.{Request}
use Rattle.rules.specs.declared.refusal.Refusal.{Refusal}
use Rattle.rules.specs.Refusals.{answer_row, refusal_row}
use Rattle.rules.specs.Frame.{digest_size, fields, covered, key_size, target_of}
use Rattle.rules.specs.Drive.{quarter}
use Rattle.rules.specs.Operations.{key_in, credential_key, head_size, result_length}
use Rattle.rules.specs.Rows.{group_bytes, scope_rows, drive_rows}
use Rattle.wire.specs.declared.ParsedRequest.{ParsedRequest}
use Rattle.wire.specs.Parse.{numbers_of}
use Rattle.keyring.specs.Keys.{keys_in, is_set, key_index}
use Rattle.keyring.specs.KeyLaws.{key_in_set, key_in_unset}
use Rattle.judge.specs.declared.ScopeFacts.{ScopeFacts}
use Rattle.judge.specs.Judge.{list_row, object_or_none, placement_for}
use Rattle.state.specs.Table.{objects_in}
use Rattle.drive.specs.Admission.{scope_from, outcome_of, ServeRequires}
use Rattle.drive.proofs.Frames.{starts_hold, in_four, the_credential, both_records}
use Rattle.drive.proofs.Admitting.{
  Prepared,
  high,
  eight,
  found_start,
  nine,
  from10,
  credential-key,
  refusal-given,
  granted-given,
  inside-medium,
  judge-facts,
  handed_on,
  ok_or_none,
  ok_or_some,
  row_not_zero,
  no_place,
  the_place,
  not_set,
  key_is,
}
use Rattle.drive.proofs.admission.serve.Goals as goal

-- ---- past row 8: the key at index j is set, these are its bytes, and the hash has taken credential and request under them
module _ {s : ScopeFacts} {need : Need} {bad : Bool} {ks t : List ℕ} {l : List Entry} {m f : List ℕ} {c : Credential}
    {request : ParsedRequest} {r : Request} (v : ServeRequires s need bad ks t l m f c request r)
    (j : ℕ) (j-is : j ≡ key_index c.slot c.partition) (key : List ℕ) (is-key : (is_set ks j ≡ true) × (key ≡ part ks (key_size * j) key_size)) where
  -- its bytes
  abbrev secret : List ℕ
  secret = part ks (key_size * key_index c.slot c.partition) key_size

  found_of : key_in (keys_in ks) c.partition c.slot ≡ some secret
  found_of = key_in_set ks c.partition c.slot v.admits.keys (ap (is_set ks) (sym j-is) ∙ is-key.0)

  secret_of : key ≡ secret
  secret_of = is-key.1 ∙ ap (λ (i : ℕ). part ks (key_size * i) key_size) j-is

  -- the keyed hash has taken credential and request under the credential key
  module _ (hash : Mac) (held : Keyed hash (hmac key (take request.starts.request f)) (take request.starts.payload f)) where
    keyed-of : Keyed hash (credential_key (keys_in ks) (fields f)) ((fields f).credential ++ (fields f).request)
    keyed-of =
        let h = starts_hold v.admits.parsed in
        let at = request.starts in
        let under : hmac key (take at.request f) ≡ credential_key (keys_in ks) (fields f) =
        ap (λ (k : List ℕ). hmac k (take at.request f)) secret_of
        ∙ ap (hmac secret) (the_credential h) ∙ credential-key v.admits found_of in
        subst (λ (n : List ℕ). Keyed hash (credential_key (keys_in ks) (fields f)) n) (both_records h)
        (subst (λ (n : List ℕ). Keyed hash n (take at.payload f)) under held)

    -- the digest compared
    module _ (signed : Bool) (judged : (k : List ℕ) → Keyed hash k ((fields f).credential ++ (fields f).request)
        → signed ≡ same (fields f).digest (hmac k (covered request.level (fields f).credential (fields f).request (fields f).payload))) where
      compared : signed ≡ same (fields f).digest (hmac (credential_key (keys_in ks) (fields f))
          (covered request.level (fields f).credential (fields f).request (fields f).payload))
      compared = judged (credential_key (keys_in ks) (fields f)) keyed-of

      -- the row that the rules give is the one that was judged
      row_of : (space : List ℕ) → signed ≡ true → (row : ℕ)
          → row ≡ first_row (scope_rows (scope_from s ks t l) c r (fields f).payload (group_bytes (scope_from s ks t l) c m) (length space))
          → first_row (drive_rows (scope_from s ks t l) m (fields f) space) ≡ row
      row_of space good row e =
          let S = scope_from s ks t l in
          from10 v.admits found_of space (high v) signed compared good
          ∙ ap (λ (q : Request). first_row (scope_rows S c q (fields f).payload (group_bytes S c m) (length space))) (sym v.numbers)
          ∙ sym e

-- what is worked out before the rows are judged; `named` is the object that the credential names, all zeros where there is none
prepared : {s : ScopeFacts} {need : Need} {bad : Bool} {ks t : List ℕ} {l : List Entry} {m f : List ℕ} {c : Credential}
    {request : ParsedRequest} {r : Request} {n whole : ℕ} {found : code.Option Object} {named : Object}
    {listed : code.Result (Unit {0}) Refusal} {target : code.Option Object} {place : code.Option ℕ}
    → ServeRequires s need bad ks t l m f c request r → n ≡ result_length r
    → whole ≡ head_size + n + cond (r.level is 2) digest_size 0 → option_of found ≡ find Object.number c.object (objects_in t)
    → named ≡ object_or_none (option_of found)
    → answer_row listed ≡ list_row (part m (c.partition * quarter s.size + named.start) named.size) (numbers_of request)
    → option_of target ≡ find Object.number (target_of c (numbers_of request)) (objects_in t)
    → option_of place ≡ placement_for (quarter s.size) (objects_in t) r
    → Prepared s t m c r n whole found listed target place
prepared {s = s} {t = t} {m = m} {c = c} {request = request} {found = found} w result reply there named list reached placed = record {
  result = result;
  reply = reply;
  named = there;
  list = list ∙ ap (λ (o : Object). list_row (part m (c.partition * quarter s.size + o.start) o.size) (numbers_of request)) named
      ∙ ap (list_row (part m (found_start s c found) (object_or_none (option_of found)).size)) (sym w.numbers);
  reached = reached ∙ ap (λ (r : Request). find Object.number (target_of c r) (objects_in t)) (sym w.numbers);
  placed = placed;
}

pub returns-in_err-j : goal.returns-in_err-j
returns-in_err-j c l w =
    let a = c.args in
    let i = key_index a.p.credential.slot a.p.credential.partition in
    let e = c.in_err-j.field-0.0 in
    let p = ok_or_none c.key_index.result _ e c.in_err-j.ensures.value in
    refusal-given w.admits a.reply.now _ 8
    (eight w.admits a.reply.now (high w) (key_in_unset a.scope.keys.now a.p.credential.partition a.p.credential.slot w.admits.keys
    (no_place a.scope.keys.now i (sym p.0 ∙ c.key_index.ensures))))
    (λ z. omega arith) (ap outcome_of (handed_on _ e c.from_residual.ensures.1 ∙ ap code.Err p.1))

pub returns-in_err-key : goal.returns-in_err-key
returns-in_err-key c l w =
    let a = c.args in
    let i = key_index a.p.credential.slot a.p.credential.partition in
    let j = c.in_ok-j.j in
    let j-is = the_place i j (sym (ok_or_some c.key_index.result _ j c.in_ok-j.ensures.value) ∙ c.key_index.ensures) in
    let e = c.in_err-key.field-0.0 in
    let p = ok_or_none c.key.result _ e c.in_err-key.ensures.value in
    let unset : is_set a.scope.keys.now i ≡ false =
    ap (is_set a.scope.keys.now) (sym j-is) ∙ not_set a.scope.keys.now j (ap option_copied (sym p.0) ∙ c.key.ensures) in
    refusal-given w.admits a.reply.now _ 8
    (eight w.admits a.reply.now (high w) (key_in_unset a.scope.keys.now a.p.credential.partition a.p.credential.slot w.admits.keys unset))
    (λ z. omega arith) (ap outcome_of (handed_on _ e c.from_residual-in_err-key.ensures.1 ∙ ap code.Err p.1))

pub records_mac-hash-requires : goal.records_mac-hash-requires
records_mac-hash-requires c = starts_hold c.requires.1.admits.parsed

pub is_signed-requires : goal.is_signed-requires
is_signed-requires c = starts_hold c.requires.1.admits.parsed

pub group_row-listed-requires : goal.group_row-listed-requires
group_row-listed-requires c =
    let w = c.requires.1.admits in
    (w.small, in_four w.parsed, rw c.object_or_none-named.ensures (inside-medium w c.look_up-found.result c.look_up-found.ensures))

pub grant_context-context-requires : goal.grant_context-context-requires
grant_context-context-requires c =
    let w = c.requires.1.admits in (w.small, in_four w.parsed, w.table)

pub grant-requires : goal.grant-requires
grant-requires c = starts_hold c.requires.1.admits.parsed

pub returns-then-not-is_signed : goal.returns-then-not-is_signed
returns-then-not-is_signed c l w =
    let a = c.args in
    let i = key_index a.p.credential.slot a.p.credential.partition in
    let j = c.in_ok-j.j in
    let j-is = the_place i j (sym (ok_or_some c.key_index.result _ j c.in_ok-j.ensures.value) ∙ c.key_index.ensures) in
    let key = c.in_ok-key.key.now in
    let set = key_is a.scope.keys.now j key
    (ap option_copied (sym (ok_or_some c.key.result _ c.in_ok-key.key c.in_ok-key.ensures.value)) ∙ c.key.ensures) in
    refusal-given w.admits a.reply.now _ 9
    (nine w.admits (found_of w j j-is key set) a.reply.now (high w) c.is_signed.result
    (compared w j j-is key set c.records_mac-hash.result c.records_mac-hash.ensures c.is_signed.result c.is_signed.ensures)
    c.if-not-is_signed.true)
    (λ z. omega arith) refl

pub returns-in_err-judge : goal.returns-in_err-judge
returns-in_err-judge c l w =
    let a = c.args in
    let i = key_index a.p.credential.slot a.p.credential.partition in
    let j = c.in_ok-j.j in
    let j-is = the_place i j (sym (ok_or_some c.key_index.result _ j c.in_ok-j.ensures.value) ∙ c.key_index.ensures) in
    let key = c.in_ok-key.key.now in
    let set = key_is a.scope.keys.now j key
    (ap option_copied (sym (ok_or_some c.key.result _ c.in_ok-key.key c.in_ok-key.ensures.value)) ∙ c.key.ensures) in
    let S = scope_from a.scope.facts a.scope.keys.now a.scope.table.now l in
    let x = fields a.frame.now in
    let p = prepared w c.result_length-n.ensures c.length_with-length.ensures c.look_up-found.ensures c.object_or_none-named.ensures
    c.group_row-listed.ensures (c.target_in-target.ensures a.p.credential c.look_up-found.ensures) c.placement-place.ensures in
    let e = c.in_err-judge.field-0.0 in
    let row = row_of w j j-is key set c.records_mac-hash.result c.records_mac-hash.ensures c.is_signed.result c.is_signed.ensures
    a.reply.now c.if-not-is_signed.false (refusal_row e)
    (c.in_err-judge.ensures S x.payload (group_bytes S a.p.credential a.medium.now) (judge-facts w p)) in
    refusal-given w.admits a.reply.now _ (refusal_row e) row (row_not_zero e)
    (ap outcome_of (handed_on _ e c.from_residual-in_err-judge.ensures.1))

pub returns : goal.returns
returns c l w =
    let a = c.args in
    let i = key_index a.p.credential.slot a.p.credential.partition in
    let j = c.in_ok-j.j in
    let j-is = the_place i j (sym (ok_or_some c.key_index.result _ j c.in_ok-j.ensures.value) ∙ c.key_index.ensures) in
    let key = c.in_ok-key.key.now in
    let set = key_is a.scope.keys.now j key
    (ap option_copied (sym (ok_or_some c.key.result _ c.in_ok-key.key c.in_ok-key.ensures.value)) ∙ c.key.ensures) in
    let hash = c.records_mac-hash in
    let S = scope_from a.scope.facts a.scope.keys.now a.scope.table.now l in
    let x = fields a.frame.now in
    let p = prepared w c.result_length-n.ensures c.length_with-length.ensures c.look_up-found.ensures c.object_or_none-named.ensures
    c.group_row-listed.ensures (c.target_in-target.ensures a.p.credential c.look_up-found.ensures) c.placement-place.ensures in
    let row = row_of w j j-is key set hash.result hash.ensures c.is_signed.result c.is_signed.ensures
    a.reply.now c.if-not-is_signed.false 0
    (c.in_ok-judge.ensures S x.payload (group_bytes S a.p.credential a.medium.now) (judge-facts w p)) in
    granted-given w p a.reply.now row (found_of w j j-is key set)
    j j-is c.grant_context-context.result c.grant_context-context.ensures _ _ c.grant.ensures.0
    hash.result (keyed-of w j j-is key set hash.result hash.ensures) c.grant.ensures.1
