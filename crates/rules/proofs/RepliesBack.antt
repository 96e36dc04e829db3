-- Demand 2: the reply that the gate's rules give to a built frame is one that the reply check accepts, with the gate's
-- result.
use mathlib.Core.Path.{◌∙◌, ◌≡◌, ap, refl, subst, sym}
use mathlib.Core.Bool.{◌&&◌, ◌||◌, Bool, cond, false, not, true}
use mathlib.Core.Option.{Option, get_or}
use mathlib.Core.List.{◌++◌, append_assoc, List}
use Prim.Native.Nat.{◌*◌, ◌+◌, ◌≤◌, ℕ}
use native.Mathlib.Omega.{arith}
use lib.ListN.{drop, length, length-append, take}
use lib.Seq.{drop_at, take_all, take_at}
use borrow.Author.Tests.{eq-eqb, le-ltb, leb-true}
use Rattle.lemmas.specs.BigEndian.{big_endian}
use Rattle.lemmas.specs.ListLaws.{found}
use Rattle.lemmas.specs.Lists.{part, same, splice}
use Rattle.lemmas.specs.Parts.{length_part}
use Rattle.lemmas.specs.RowTable.{first_row}
use Rattle.lemmas.specs.Same.{same_refl}
use Rattle.lemmas.specs.Tests.{◌is◌, ◌isnt◌, ◌over◌, or_intro_l}
use Rattle.digest.specs.Hmac.{hmac}
use Rattle.digest.specs.DigestLaws.{length-hmac}
use Rattle.rules.specs.declared.Object.{Object}
use Rattle.rules.specs.declared.Operation.TheVariants.{Read}
use Rattle.rules.specs.declared.Request.{Request}
use Rattle.rules.specs.Client.{bad_records, build_rows, check, check_rows, frame_of, row30}
use Rattle.rules.specs.Demands.{RepliesBack}
use Rattle.rules.specs.Drive.{Drive, Partition, quarter, refresh, sound}
use Rattle.rules.specs.Frame.{Fields, fields, operation_of, request_at, target_of}
use Rattle.rules.specs.Gate.{Answer, Call, gate, granted}
use Rattle.rules.specs.Operations.{
  credential_key,
  extent_start,
  head,
  headed,
  named_object,
  no_object,
  object_of,
  perform,
  reply,
  reply_covered,
  reply_length,
  result_length,
  sealed,
}
use Rattle.rules.specs.Rows.{is_transfer, rows}
use Rattle.rules.specs.Scope.{Scope, drive_scope}
use Rattle.rules.proofs.Answers.{gate-granted, gate-row}
use Rattle.rules.proofs.Clear.{asks_for, Clear, cleared, in_four, in_object, known_operation, is_sound, read_moves, size_is, there}
use Rattle.rules.proofs.Holds.{quarter_in}
use Rattle.rules.proofs.Keeps.{small_of, tables_of_lem}
use Rattle.rules.proofs.RoundTrip.{built-fields, key_long, parts, records}
use Rattle.rules.proofs.Shown.{reply-length, result-length}
use Rattle.rules.proofs.Sound.{at_sound, member-sound, partition_is, SoundObject, SoundScope}

-- ---- the parts of a reply: head, result, and what follows
module _ (h res tail : List ℕ) (n : ℕ) (lh : length h ≡ 8) (lr : length res ≡ n) where
  front : length (h ++ res) ≡ 8 + n
  front = length-append h res ∙ rw (lh, lr) refl

  take_head : take 8 (h ++ res ++ tail) ≡ h
  take_head = ap (take 8) (append_assoc h res tail) ∙ take_at h (res ++ tail) 8 lh

  take-front : take (8 + n) (h ++ res ++ tail) ≡ h ++ res
  take-front = take_at (h ++ res) tail (8 + n) front

  part-result : part (h ++ res ++ tail) 8 n ≡ res
  unfolding part
  part-result = ap (λ (l : List ℕ). take n (drop 8 l)) (append_assoc h res tail)
      ∙ rw (drop_at h (res ++ tail) 8 lh) (take_at res tail n lr)

  part-tail : length tail ≡ 32 → part (h ++ res ++ tail) (8 + n) 32 ≡ tail
  unfolding part
  part-tail lt = rw (drop_at (h ++ res) tail (8 + n) front) (take_all 32 tail (omega arith))

-- ---- a granted read lies inside the medium
module _ {f : List ℕ} {s : Scope Object} {m space : List ℕ} (g : Clear f s m space) (k : SoundScope s) where
  abbrev x : Fields
  x = fields f

  pub sound-named : is_transfer x.req ≡ true
      → SoundObject s.quarter s.partition.last (object_of s (target_of x.cred x.req))
  unfolding object_of named_object
  sound-named h =
      let p : Partition Object = s.partition in
      let a = found Object.number (target_of x.cred x.req) p.objects (there g h) in
      subst (SoundObject s.quarter p.last) (ap (λ (o : Option Object). get_or o no_object) (sym a.1))
      (member-sound (partition_is s.quarter p k) a.2)

  pub read-room : (M : ℕ) → s.quarter ≡ quarter M → is_transfer x.req ≡ true
      → extent_start s x.cred (target_of x.cred x.req) + x.req.A + x.req.B ≤ M
  unfolding extent_start
  read-room M e h =
      let n : ℕ = x.cred.partition in
      let i : n * s.quarter ≡ n * quarter M = ap (λ (q : ℕ). n * q) e in
      omega (arith, (sound-named h).inside, in_object g h, quarter_in M n (in_four g))

-- ---- the reply, checked
module _
    (d : Drive)
    (m : List ℕ)
    (c : Call)
    (credential request payload key room : List ℕ)
    (b : first_row (build_rows credential request payload key room) ≡ 0)
    (e : c.frame ≡ frame_of credential request payload key)
    (a : (gate d m c).row ≡ 0)
    (k : key ≡ credential_key (refresh c.clock d).tables.keys (fields c.frame))
  where
    abbrev y : Fields
    y = fields c.frame

    abbrev u : Scope Object
    u = drive_scope (refresh c.clock d) y.cred

    abbrev res : List ℕ
    res = (perform (operation_of y) u y m).result

    g : first_row (rows d m c.frame c.clock c.space) ≡ 0
    g = sym (gate-row d m c) ∙ a

    ok : Clear c.frame u m c.space
    ok = cleared d m c.frame c.clock c.space g

    sound-d : sound d ≡ true
    sound-d = is_sound d m c.frame c.clock c.space g

    sound-u : SoundScope u
    unfolding refresh
    sound-u = at_sound (quarter d.size) d.tables y.cred.partition (tables_of_lem d sound-d)

    fits : is_transfer y.req ≡ true → extent_start u y.cred (target_of y.cred y.req) + y.req.A + y.req.B ≤ length m
    unfolding refresh
    fits h = omega (arith, read-room ok sound-u d.size refl h, size_is d m c.frame c.clock c.space g)

    few : is_transfer y.req ≡ true → y.req.B ≤ 4194304
    unfolding refresh
    few h = omega (
      arith,
      leb-true d.size 16777216 (small_of d sound-d),
      (sound-named ok sound-u h).inside,
      in_object ok h,
    )

    same_fields : y ≡ parts credential request payload key room b
    same_fields = ap fields e ∙ built-fields credential request payload key room b

    abbrev r : Request
    r = request_at request 0

    req_is : y.req ≡ r
    req_is = ap Fields.req same_fields

    length-res : length res ≡ result_length y.req
    length-res =
        result-length u y m (known_operation ok).0 (known_operation ok).1
        (λ a b o. let k = asks_for y.req (Read a b) o in
        length_part m (extent_start u y.cred (target_of y.cred y.req) + a) b (omega (arith, k.1, k.2, fits (read_moves ok o))))

    abbrev whole : List ℕ
    whole = reply u.keys y res

    length_whole : length whole ≡ reply_length y.req
    length_whole = reply-length u.keys y res length-res

    -- the space begins with the reply
    taken : take (gate d m c).length (gate d m c).space ≡ whole
    unfolding granted splice refresh
    taken =
        ap (λ (n : Answer Drive). take n.length n.space) (gate-granted d m c g)
        ∙ take_at whole (drop (0 + length whole) c.space) (reply_length y.req) length_whole

    -- ---- the three rows of the check
    short : (result_length y.req over 4194304) ≡ false
    short = le-ltb 4194304 (result_length y.req) (go (y.req.operation is 1) refl)
      where
        rest : (p o : Bool) → cond p 8 (cond o 4 0) ≤ 4194304
        rest true o = omega arith
        rest false true = omega arith
        rest false false = omega arith

        go : (i : Bool) → (y.req.operation is 1) ≡ i
            → cond i y.req.B (cond (y.req.operation is 3) 8
            (cond (y.req.operation is 4 || y.req.operation is 5) 4 0)) ≤ 4194304
        go true h = few (or_intro_l (y.req.operation is 1) (y.req.operation is 2) h)
        go false h = rest (y.req.operation is 3) (y.req.operation is 4 || y.req.operation is 5)

    abbrev top : List ℕ
    top = head y.req (length res)

    length-top : length top ≡ 8
    unfolding head big_endian
    length-top = refl

    abbrev tail : List ℕ
    tail = sealed u.keys y res

    whole_is : whole ≡ top ++ res ++ tail
    unfolding reply headed
    whole_is = refl

    -- its head, its length, and at level 2 its digest are those that the request calls for
    head_same : same (take 8 whole) (head y.req (result_length y.req)) ≡ true
    head_same =
        ap (λ (l : List ℕ). same l (head y.req (result_length y.req)))
        (ap (take 8) whole_is ∙ take_head top res tail (result_length y.req) length-top length-res
        ∙ ap (head y.req) length-res)
        ∙ same_refl (head y.req (result_length y.req))

    digest_same : (y.req.level is 2) ≡ true
        → same (part whole (8 + result_length y.req) 32)
        (hmac key (reply_covered y.credential y.request (take (8 + result_length y.req) whole))) ≡ true
    unfolding sealed headed
    digest_same h =
        let n : ℕ = result_length y.req in
        let sealed-is : tail ≡ hmac (credential_key u.keys y)
        (reply_covered y.credential y.request (top ++ res)) = rw h refl in
        let long : length tail ≡ 32 = ap length sealed-is
        ∙ length-hmac (credential_key u.keys y) (reply_covered y.credential y.request (top ++ res)) in
        let left : part whole (8 + n) 32 ≡ tail = ap (λ (l : List ℕ). part l (8 + n) 32) whole_is
        ∙ part-tail top res tail n length-top length-res long in
        let front : take (8 + n) whole ≡ top ++ res = ap (take (8 + n)) whole_is
        ∙ take-front top res tail n length-top length-res in
        rw (left, front, k, sealed-is) (same_refl (hmac (credential_key u.keys y)
        (reply_covered y.credential y.request (top ++ res))))

    abbrev wrong : Fields → Bool
    wrong x =
        not (same (take 8 whole) (head x.req (result_length x.req)))
        || length whole isnt reply_length x.req
        || (x.req.level is 2
        && not (same (part whole (8 + result_length x.req) 32)
        (hmac key (reply_covered x.credential x.request (take (8 + result_length x.req) whole)))))

    right : wrong y ≡ false
    right = rw (head_same, eq-eqb (length whole) (reply_length y.req) length_whole) (go (y.req.level is 2) refl)
      where
        go : (i : Bool) → (y.req.level is 2) ≡ i
            → (i && not (same (part whole (8 + result_length y.req) 32)
            (hmac key (reply_covered y.credential y.request (take (8 + result_length y.req) whole)))))
            ≡ false
        go true h = ap not (digest_same h)
        go false h = refl

    none : first_row (check_rows credential request key whole) ≡ 0
    unfolding check_rows row30 first_row
    none =
        let h28 : (bad_records credential request || result_length r over 4194304) ≡ false =
        rw (records credential request payload key room b)
        (subst (λ (q : Request). (result_length q over 4194304) ≡ false) req_is short) in
        let h30 : row30 credential request key whole ≡ false =
        subst (λ (x : Fields). wrong x ≡ false) same_fields right in
        rw (key_long credential request payload key room b, h28, h30) refl

    pub replies_back : RepliesBack d m c credential request key
    unfolding check
    replies_back = record {
      accepted =
          ap (check credential request key) taken
          ∙ rw (eq-eqb (first_row (check_rows credential request key whole)) 0 none)
          (λ i. record { row = 0; start = 8; length = result_length r; result = result-part i });
    }
      where
        result-part : part whole 8 (result_length r) ≡ res
        result-part =
            subst (λ (q : Request). part whole 8 (result_length q) ≡ res) req_is
            (ap (λ (l : List ℕ). part l 8 (result_length y.req)) whole_is
            ∙ part-result top res tail (result_length y.req) length-top length-res)
