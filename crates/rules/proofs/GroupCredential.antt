-- Document 02, change 6: the bytes of every list are let pass and its numbers are the members (`lists-read_back`), no other bytes
-- are (`only_lists`); a frame without a group is what it was (`plain_frames`); what holds of a frame that is granted through a
-- group (`through_group`), and what a look shows (`look_through`).
use mathlib.Core.Logic.{◌⊎◌, inl, inr}
use mathlib.Core.Path.{◌∙◌, ◌≡◌, ap, refl, subst, sym}
use mathlib.Core.Bool.{false, not, true}
use mathlib.Core.Option.{Option, get_or, some}
use mathlib.Core.List.{[], ◌++◌, ◌∷◌, append-nil, List, Memᴰ}
use Prim.Native.Nat.{◌%◌, ◌*◌, ◌+◌, ◌/◌, ◌<◌, ◌≤◌, suc, zero, ℕ}
use native.Mathlib.Omega.{arith}
use lib.ListN.{length, length-replicate, replicate}
use lib.Seq.{take_all}
use borrow.Author.Tests.{eq-eqb, eqb-true, lt-ltb, ltb-true, ne_eqb, not-false}
use Rattle.lemmas.specs.BigEndian.{AllFit, big_endian, encode, layout_size, length-encode, read-encode, read_fits, read_all}
use Rattle.lemmas.specs.ListLaws.{found, member_some, some_member}
use Rattle.lemmas.specs.Lists.{missing, part, some?}
use Rattle.lemmas.specs.Tests.{◌is◌, ◌over◌, and_l, and_r, and_rest_false, both, or_cases}
use Rattle.rules.specs.declared.Object.{Object}
use Rattle.rules.specs.declared.Operation.TheVariants.{Look}
use Rattle.rules.specs.Demands.{call_fields, nonce}
use Rattle.rules.specs.Frame.{entry, Fields, fields, is_group_credential, is_group_request, request_length, target_of}
use Rattle.rules.specs.Group.{is_group_list, lists, members_in, member_size, rising}
use Rattle.rules.specs.GroupCredential.{
  call_scope,
  list_bytes,
  ListsReadBack,
  OnlyLists,
  PlainFrames,
  RisingFrom,
  ThroughGroup,
}
use Rattle.rules.specs.Operations.{named_object, no_object, object_of, perform, present_version, size_of}
use Rattle.rules.specs.Rows.{group_bytes, is_transfer, row32, row33, row34}
use Rattle.rules.specs.Scope.{Scope}
use Rattle.rules.proofs.Answers.{gate-row}
use Rattle.rules.proofs.BytesBack.{layout_written}
use Rattle.rules.proofs.Clear.{
  Clear,
  clear32,
  clear33,
  clear34,
  cleared,
  exists,
  group-credential,
  group-object,
  group-operation,
  group-request,
  in_object,
  in_range,
  target-member,
  target-object,
  version_is,
}

-- ---- rising numbers
rising_is : (last : ℕ) (ns : List ℕ) → rising last ns ≡ true → RisingFrom last ns
unfolding rising RisingFrom
rising_is last [] e = tt
rising_is last (n ∷ ns) e =
    (ltb-true last n (and_l (n over last) (rising n ns) e), rising_is n ns (and_r (n over last) (rising n ns) e))

is_rising : (last : ℕ) (ns : List ℕ) → RisingFrom last ns → rising last ns ≡ true
unfolding rising RisingFrom
is_rising last [] h = refl
is_rising last (n ∷ ns) h = both (lt-ltb last n h.0) (is_rising n ns h.1)

-- ---- the bytes of a list: how many
whole_numbers : (b : List ℕ) → is_group_list b ≡ true → length b % member_size ≡ 0
unfolding is_group_list
whole_numbers b e =
    eqb-true (length b % member_size) 0 (and_l (length b % member_size is 0) (rising 0 (members_in b)) e)

widths_size : (n : ℕ) → layout_size (replicate n member_size) ≡ n * member_size
unfolding layout_size
widths_size zero = refl
widths_size (suc n) = omega (arith, widths_size n)

read_length : (s : List ℕ) (i : ℕ) (ws : List ℕ) → length (read_all s i ws) ≡ length ws
unfolding read_all
read_length s i [] = refl
read_length s i (w ∷ ws) = ap suc (read_length s (i + w) ws)

length-list : (ns : List ℕ) → length (list_bytes ns) ≡ length ns * member_size
unfolding list_bytes
length-list ns = length-encode (replicate (length ns) member_size) ns ∙ widths_size (length ns)

-- what was written is read
members_are : (ns : List ℕ) → AllFit (replicate (length ns) member_size) ns → members_in (list_bytes ns) ≡ ns
unfolding members_in list_bytes
members_are ns fit =
    let ws : List ℕ = replicate (length ns) member_size in
    let many : length (encode ws ns) / member_size ≡ length ns = omega (arith, length-list ns) in
    ap (λ (n : ℕ). read_all (encode ws ns) 0 (replicate n member_size)) many
    ∙ ap (λ (s : List ℕ). read_all s 0 ws) (sym (append-nil (encode ws ns)))
    ∙ read-encode ws ns [] [] fit

pub lists-read_back : ListsReadBack
unfolding is_group_list lists
lists-read_back ns h = record {
  passes = both (eq-eqb (length (list_bytes ns) % member_size) 0 (omega (arith, length-list ns)))
      (rw (members_are ns h.fits) (is_rising 0 ns h.rising));
  members = λ n. rw (members_are ns h.fits) (there n, listed n);
}
  where
    there : (n : ℕ) → some? (λ (k : ℕ). k is n) ns ≡ true → Memᴰ n ns
    there n e =
        let f = some_member (λ (k : ℕ). k is n) ns e in
        subst (λ (k : ℕ). Memᴰ k ns) (eqb-true f.0 n f.2) f.1

    listed : (n : ℕ) → Memᴰ n ns → some? (λ (k : ℕ). k is n) ns ≡ true
    listed n m = member_some (λ (k : ℕ). k is n) ns n m (eq-eqb n n refl)

-- what is read was written so
pub only_lists : OnlyLists
unfolding is_group_list members_in list_bytes part
only_lists b bytes e = (
  ns,
  (
    record {
      rising = rising_is 0 ns (and_r (length b % member_size is 0) (rising 0 ns) e);
      fits = subst (λ (n : ℕ). AllFit (replicate n member_size) ns) (sym many) (read_fits b 0 ws bytes);
    },
    sym (ap (λ (n : ℕ). encode (replicate n member_size) ns) many
        ∙ layout_written b bytes ws 0 (omega (arith, size)) ∙ take_all (layout_size ws) b (omega (arith, size))),
  ),
)
  where
    ws : List ℕ
    ws = replicate (length b / member_size) member_size

    ns : List ℕ
    ns = read_all b 0 ws

    many : length ns ≡ length b / member_size
    many = read_length b 0 ws ∙ length-replicate (length b / member_size) member_size

    size : layout_size ws ≡ length b
    size = widths_size (length b / member_size) ∙ omega (arith, whole_numbers b e)

-- a number in a list is from 1
from_1 : (last n : ℕ) (ns : List ℕ) → rising last ns ≡ true → Memᴰ n ns → last < n
unfolding rising
from_1 last n [] e m = elim m [ ]
from_1 last n (k ∷ ks) e (Memᴰ.head q) = subst (λ (i : ℕ). last < i) (sym q) (ltb-true last k (and_l (k over last) (rising k ks) e))
from_1 last n (k ∷ ks) e (Memᴰ.tail m) =
    omega (
      arith,
      ltb-true last k (and_l (k over last) (rising k ks) e),
      from_1 k n ks (and_r (k over last) (rising k ks) e) m,
    )

member_from_1 : (b : List ℕ) (n : ℕ) → is_group_list b ≡ true → lists b n ≡ true → n ≡ 0 → ⊥
unfolding is_group_list lists
member_from_1 b n e f z =
    let k = some_member (λ (k : ℕ). k is n) (members_in b) f in
    let h = from_1 0 k.0 (members_in b) (and_r (length b % member_size is 0) (rising 0 (members_in b)) e) k.1 in
    omega (arith, h, eqb-true k.0 n k.2, z)

-- ---- a frame without a group
pub plain_frames : PlainFrames
unfolding request_length row32 row33 row34
plain_frames c r e = record {
  size = rw e refl;
  target = target-object c r e;
  list = λ group. rw e refl;
  listed = λ group. rw e refl;
  member = λ s. rw e refl;
}

-- ---- a granted frame under a group credential
-- an object that is there has its version and its size
the_named : (s : Scope Object) (n : ℕ) → missing (named_object s n) ≡ false
    → (a : Object) × (named_object s n ≡ some a) × (object_of s n ≡ a)
unfolding named_object object_of
the_named s n h =
    let f = found Object.number n s.partition.objects h in
    (f.0, f.1, ap (λ (o : Option Object). get_or o no_object) f.1)

object-version : (s : Scope Object) (n : ℕ) → (n ≡ 0 → ⊥) → present_version s n ≡ (object_of s n).version
unfolding present_version
object-version s n h = rw (ne_eqb n 0 h) refl

module _ {f : List ℕ} {s : Scope Object} {m space : List ℕ} (ok : Clear f s m space)
    (h : is_group_credential (fields f).cred ≡ true) where
  abbrev x : Fields
  x = fields f

  grouped : is_group_request x.req ≡ true
  grouped = group-request ok h

  a-list : is_group_list (group_bytes s x.cred m) ≡ true
  unfolding row32
  a-list = not-false (is_group_list (group_bytes s x.cred m)) (and_rest_false (is_group_request x.req)
      (not (is_group_list (group_bytes s x.cred m))) grouped (clear32 ok))

  in_list : lists (group_bytes s x.cred m) x.req.member ≡ true
  unfolding row33
  in_list = not-false (lists (group_bytes s x.cred m) x.req.member) (and_rest_false (is_group_request x.req)
      (not (lists (group_bytes s x.cred m) x.req.member)) grouped (clear33 ok))

  the_group : (a : Object) × ((named_object s x.cred.object ≡ some a) × (a.version ≡ x.cred.version))
  the_group =
      let n : ℕ = x.cred.object in
      let a = the_named s n (exists ok (group-object ok h)) in (
        a.0,
        (
          a.1,
          sym (version_is ok (omega (arith, group-operation ok h)) ∙ object-version s n (group-object ok h)
              ∙ ap Object.version a.2),
        ),
      )

  the_target : target_of x.cred x.req ≡ x.req.member
  the_target = target-member x.cred x.req grouped

  pub the_member : (a : Object) × (named_object s x.req.member ≡ some a) × (object_of s x.req.member ≡ a)
  unfolding row34
  the_member = the_named s x.req.member (and_rest_false (is_group_request x.req)
      (missing (named_object s x.req.member)) grouped (clear34 ok))

  in_member : is_transfer x.req ≡ true → x.req.A + x.req.B ≤ the_member.0.size
  in_member t = subst (λ (a : Object). x.req.A + x.req.B ≤ a.size) (ap (object_of s) the_target ∙ the_member.2)
      (in_object ok t)

  -- "range, size, result .. are the member's": a look shows its size and its version
  pub look_through : (perform Look s x m).result ≡ big_endian 4 the_member.0.size ++ big_endian 4 the_member.0.version
  unfolding perform
  look_through =
      let n : ℕ = x.req.member in
      let listed : n ≡ 0 → ⊥ = member_from_1 (group_bytes s x.cred m) n a-list in_list in
      let size : size_of s n ≡ the_member.0.size = rw (ne_eqb n 0 listed) (ap Object.size the_member.2) in
      let version : present_version s n ≡ the_member.0.version = object-version s n listed ∙ ap Object.version the_member.2 in
      ap (λ (k : ℕ). big_endian 4 (size_of s k) ++ big_endian 4 (present_version s k)) the_target
      ∙ (λ i. big_endian 4 (size i) ++ big_endian 4 (version i))

pub through_group : ThroughGroup
unfolding nonce entry
through_group d m c z e = record {
  credential = h;
  request = grouped ok h;
  operation = group-operation ok h;
  group = the_group ok h;
  list = a-list ok h;
  listed = in_list ok h;
  target = the_target ok h;
  member = (
    (the_member ok h).0,
    (the_member ok h).1,
    λ t. ((in_range ok t).0, ((in_range ok t).1, in_member ok h t)),
  );
  look = look_through ok h;
  nonce = refl;
}
  where
    ok : Clear c.frame (call_scope d c) m c.space
    ok = cleared d m c.frame c.clock c.space (sym (gate-row d m c) ∙ z)

    -- by row 6 one is a group's exactly where the other is
    h : is_group_credential (call_fields c).cred ≡ true
    h = go (or_cases (is_group_credential (call_fields c).cred) (is_group_request (call_fields c).req) e)
      where
        go : (is_group_credential (call_fields c).cred ≡ true) ⊎ (is_group_request (call_fields c).req ≡ true)
            → is_group_credential (call_fields c).cred ≡ true
        go (inl k) = k
        go (inr k) = group-credential ok k
