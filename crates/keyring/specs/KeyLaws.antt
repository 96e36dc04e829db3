-- Laws of the keys' bytes: a key that is set, the key that a slot names, and the rules' keys after one was set.
use Rattle.std.specs.Prelude.{◌≡◌, ◌⊎◌, Bool, true, false, ◌&&◌, cond, List, [], ◌∷◌, length, replicate}
use Rattle.std.proofs.Math.Path.{refl, sym}
use Rattle.std.proofs.Common.{ap, ◌∙◌, inl, inr, arith}
use Rattle.std.proofs.Math.Option
use Rattle.std.proofs.Math.Option.{none, some}
use Prim.Native.Nat.{ℕ, zero, suc, ◌+◌, ◌*◌, ◌≤◌, ◌<◌}
use Rattle.std.proofs.Math.Nat.{add-zero}
use Rattle.std.proofs.Math.Decide.{dec_lt}
use Rattle.std.proofs.Math.ListN.{get_or, get_or-eq_default}
use Rattle.std.proofs.lemmas.List.{length-replicate, get_or-replicate}
use borrow.Author.Tests.{lt-ltb, le-ltb, eq-eqb, eqb-true, eqb-false, ltb-true}
use Rattle.lemmas.specs.Tests.{◌under◌, ◌is◌, ◌isnt◌, and_l, and_r}
use Rattle.lemmas.specs.Lists.{part, splice, update}
use Rattle.lemmas.specs.Parts.{length-splice, splice_before, splice_in, splice_after, part_apart, part-new}
use Rattle.rules.specs.Frame.{key_size}
use Rattle.rules.specs.Drive as rules
use Rattle.rules.specs.Operations.{key_in, with_drive_key, with_partition_key, with_working0, with_working1, key_put}
use Rattle.keyring.specs.Keys.{
  partition_count,
  working0_from,
  working1_from,
  partition_keys_from,
  drive_key_at,
  master_key_at,
  key_count,
  flags_from,
  keys_size,
  key_at,
  four_from,
  keys_by,
  keys_in,
  is_set,
  index_among_four,
  key_index,
  target_index,
  key_stored,
  formatted_keys,
}

-- ---- a key that is set, and one that is not
pub set_there : (ks : List ℕ) (j : ℕ) → is_set ks j ≡ true → (length ks ≡ keys_size) × (j < key_count)
set_there ks j h = (
  eqb-true (length ks) keys_size (search (and_l, and_r)),
  ltb-true j key_count (search (and_l, and_r)),
)

pub key_set_lem : (ks : List ℕ) (j : ℕ) → is_set ks j ≡ true → key_at ks j ≡ some (part ks (key_size * j) key_size)
unfolding key_at
key_set_lem ks j h = rw (and_r (length ks is keys_size && j under key_count) (get_or ks (flags_from + j) 0 isnt 0) h)

-- past the last key no byte says that a key is set
pub key_past : (ks : List ℕ) (j : ℕ) → length ks ≡ keys_size → key_count ≤ j → key_at ks j ≡ none
unfolding key_at
key_past ks j e h = rw (get_or-eq_default ks 0 {n = flags_from + j} (omega arith))

pub key_unset : (ks : List ℕ) (j : ℕ) → length ks ≡ keys_size → is_set ks j ≡ false → key_at ks j ≡ none
unfolding key_at
key_unset ks j e h = go (dec_lt j key_count)
  where
    go : Dec (j < key_count) → key_at ks j ≡ none
    go (yes l) =
        let f : (get_or ks (flags_from + j) 0 isnt 0) ≡ false = rw (eq-eqb (length ks) keys_size e, lt-ltb j key_count l) at h in
        rw f
    go (no l) = key_past ks j e (omega arith)

none_some : (key : List ℕ) → ◌≡◌ {A = rules.Key} none (some key) → ⊥
none_some key e = let z : ◌≡◌ {A = ℕ} 0 1 = cc in absurd (omega arith)

-- and the other way: a key that is there is set, and it is its bytes
pub key_some : (ks : List ℕ) (j : ℕ) (key : List ℕ) → length ks ≡ keys_size → key_at ks j ≡ some key
    → (is_set ks j ≡ true) × (part ks (key_size * j) key_size ≡ key)
key_some ks j key e h = go (is_set ks j) refl
  where
    go : (b : Bool) → is_set ks j ≡ b → (is_set ks j ≡ true) × (part ks (key_size * j) key_size ≡ key)
    go true s = (s, ap (λ (o : rules.Key). Option.get_or o []) (sym (key_set_lem ks j s) ∙ h))
    go false s = absurd (none_some key (sym (key_unset ks j e s) ∙ h))

-- ---- the key that a slot names
module _ (ks : List ℕ) (e : length ks ≡ keys_size) where
  in_four : (first p : ℕ) → get_or (four_from (key_at ks) first) p none ≡ key_at ks (index_among_four first p)
  in_four first zero = refl
  in_four first (suc zero) = refl
  in_four first (suc (suc zero)) = refl
  in_four first (suc (suc (suc zero))) = refl
  in_four first (suc (suc (suc (suc p)))) =
      rw (le-ltb (suc (suc (suc (suc p)))) partition_count (omega arith)) (sym (key_past ks key_count e (omega arith)))

  pub slot-key : (p slot : ℕ) → key_in (keys_in ks) p slot ≡ key_at ks (key_index slot p)
  unfolding key_in keys_in key_index
  slot-key p zero = in_four working0_from p
  slot-key p (suc zero) = in_four working1_from p
  slot-key p (suc (suc zero)) = in_four partition_keys_from p
  slot-key p (suc (suc (suc zero))) = refl
  slot-key p (suc (suc (suc (suc zero)))) = refl
  slot-key p (suc (suc (suc (suc (suc slot))))) = sym (key_past ks key_count e (omega arith))

-- by the test that code makes
pub key_in_set : (ks : List ℕ) (p slot : ℕ) → length ks ≡ keys_size → is_set ks (key_index slot p) ≡ true
    → key_in (keys_in ks) p slot ≡ some (part ks (key_size * key_index slot p) key_size)
key_in_set ks p slot e h = slot-key ks e p slot ∙ key_set_lem ks (key_index slot p) h

pub key_in_unset : (ks : List ℕ) (p slot : ℕ) → length ks ≡ keys_size → is_set ks (key_index slot p) ≡ false
    → key_in (keys_in ks) p slot ≡ none
key_in_unset ks p slot e h = slot-key ks e p slot ∙ key_unset ks (key_index slot p) e h

-- ---- the bytes after a key was set
module _ (j : ℕ) (new ks : List ℕ) where
  -- there is such a key and lengths fit
  pub fits_yes : (j under key_count && length ks is keys_size && length new is key_size) ≡ true
      → (j < key_count) × (length ks ≡ keys_size) × (length new ≡ key_size)
  fits_yes h = (
    ltb-true j key_count (search (and_l, and_r)),
    eqb-true (length ks) keys_size (search (and_l, and_r)),
    eqb-true (length new) key_size (search (and_l, and_r)),
  )

  pub fits_not : (j under key_count && length ks is keys_size && length new is key_size) ≡ false → key_stored j new ks ≡ ks
  unfolding key_stored
  fits_not h = rw h

  module _ (h : j < key_count) (e : length ks ≡ keys_size) (f : length new ≡ key_size) where
    abbrev first : List ℕ
    first = splice ks (key_size * j) new

    put_is : key_stored j new ks ≡ splice first (flags_from + j) (1 ∷ [])
    unfolding key_stored
    put_is = rw (lt-ltb j key_count h, eq-eqb (length ks) keys_size e, eq-eqb (length new) key_size f)

    long : length first ≡ keys_size
    long = length-splice ks new (key_size * j) (omega arith) ∙ e

    put_length : length (key_stored j new ks) ≡ keys_size
    put_length = rw put_is (length-splice first (1 ∷ []) (flags_from + j) (omega (arith, long)) ∙ long)

    put_same : key_at (key_stored j new ks) j ≡ some new
    unfolding key_at
    put_same = rw (put_is, flag, bytes)
      where
        flag : get_or (splice first (flags_from + j) (1 ∷ [])) (flags_from + j) 0 ≡ 1
        flag = rw add-zero at (splice_in first (1 ∷ []) (flags_from + j) (omega (arith, long)) 0 (omega arith))

        bytes : part (splice first (flags_from + j) (1 ∷ [])) (key_size * j) key_size ≡ new
        bytes =
            part_apart first (1 ∷ []) (flags_from + j) (key_size * j) key_size (omega (arith, long)) (omega (arith, long))
            (inr (omega arith))
            ∙ (rw f at (part-new ks new (key_size * j) (omega arith)))

    put_other : (i : ℕ) → i < key_count → (i ≡ j → ⊥) → key_at (key_stored j new ks) i ≡ key_at ks i
    unfolding key_at
    put_other i l n = rw (put_is, flag (dec_lt i j), bytes (dec_lt i j))
      where
        flag : Dec (i < j) → get_or (splice first (flags_from + j) (1 ∷ [])) (flags_from + i) 0 ≡ get_or ks (flags_from + i) 0
        flag (yes k) =
            splice_before first (1 ∷ []) (flags_from + j) (omega (arith, long)) (flags_from + i) (omega arith)
            ∙ splice_after ks new (key_size * j) (omega arith) (flags_from + i) (omega arith)
        flag (no k) =
            splice_after first (1 ∷ []) (flags_from + j) (omega (arith, long)) (flags_from + i) (omega arith)
            ∙ splice_after ks new (key_size * j) (omega arith) (flags_from + i) (omega arith)

        apart : Dec (i < j) → (key_size * j + length new ≤ key_size * i) ⊎ (key_size * i + key_size ≤ key_size * j)
        apart (yes k) = inr (omega arith)
        apart (no k) = inl (omega arith)

        bytes : Dec (i < j) → part (splice first (flags_from + j) (1 ∷ [])) (key_size * i) key_size ≡ part ks (key_size * i) key_size
        bytes k =
            part_apart first (1 ∷ []) (flags_from + j) (key_size * i) key_size (omega (arith, long)) (omega (arith, long))
            (inr (omega arith))
            ∙ part_apart ks new (key_size * j) (key_size * i) key_size (omega arith) (omega arith) (apart k)

-- as long as before
pub length_put : (j : ℕ) (new ks : List ℕ) → length (key_stored j new ks) ≡ length ks
length_put j new ks = go (j under key_count && length ks is keys_size && length new is key_size) refl
  where
    go : (b : Bool) → (j under key_count && length ks is keys_size && length new is key_size) ≡ b
        → length (key_stored j new ks) ≡ length ks
    go true h =
        let f = fits_yes j new ks h in
        put_length j new ks f.0 f.1 f.2 ∙ sym f.1
    go false h = ap length (fits_not j new ks h)

-- key i after key j was set
pub key_at_put : (ks new : List ℕ) (j i : ℕ) → length ks ≡ keys_size → length new ≡ key_size → i < key_count
    → key_at (key_stored j new ks) i ≡ cond (i is j) (some new) (key_at ks i)
key_at_put ks new j i e f l = go (i is j) refl (dec_lt j key_count)
  where
    go : (b : Bool) → (i is j) ≡ b → Dec (j < key_count) → key_at (key_stored j new ks) i ≡ cond b (some new) (key_at ks i)
    go true h k =
        let q : i ≡ j = eqb-true i j h in
        ap (λ (i : ℕ). key_at (key_stored j new ks) i) q ∙ put_same j new ks (omega arith) e f
    go false h (yes k) = put_other j new ks k e f i l (eqb-false i j h)
    go false h (no k) =
        ap (λ (s : List ℕ). key_at s i) (fits_not j new ks (rw (le-ltb j key_count (omega arith)) refl))

-- the keys, where each of them is known
keys_by_lem : (ks : List ℕ) (k : ℕ → rules.Key) → ((i : ℕ) → i < key_count → key_at ks i ≡ k i) → keys_in ks ≡ keys_by k
unfolding keys_in
keys_by_lem ks k h = λ i. record {
  master = h 13 (omega arith) i;
  drive = h 12 (omega arith) i;
  partition = h 8 (omega arith) i ∷ h 9 (omega arith) i ∷ h 10 (omega arith) i ∷ h 11 (omega arith) i ∷ [];
  working0 = h 0 (omega arith) i ∷ h 1 (omega arith) i ∷ h 2 (omega arith) i ∷ h 3 (omega arith) i ∷ [];
  working1 = h 4 (omega arith) i ∷ h 5 (omega arith) i ∷ h 6 (omega arith) i ∷ h 7 (omega arith) i ∷ [];
}

-- ---- operation 7
module _ (ks new : List ℕ) (e : length ks ≡ keys_size) (f : length new ≡ key_size) where
  with_at : (j : ℕ) → keys_in (key_stored j new ks) ≡ keys_by (λ (i : ℕ). cond (i is j) (some new) (key_at ks i))
  with_at j = keys_by_lem (key_stored j new ks) (λ (i : ℕ). cond (i is j) (some new) (key_at ks i))
      (λ i l. key_at_put ks new j i e f l)

  -- a partition's working keys and its own key; past the four nothing changes
  with_four : (p : ℕ)
      → (keys_in (key_stored (index_among_four working0_from p) new ks) ≡ with_working0 p new (keys_in ks))
      × (keys_in (key_stored (index_among_four working1_from p) new ks) ≡ with_working1 p new (keys_in ks))
      × (keys_in (key_stored (index_among_four partition_keys_from p) new ks) ≡ with_partition_key p new (keys_in ks))
  unfolding keys_in key_stored update
  with_four zero = (with_at 0, with_at 4, with_at 8)
  with_four (suc zero) = (with_at 1, with_at 5, with_at 9)
  with_four (suc (suc zero)) = (with_at 2, with_at 6, with_at 10)
  with_four (suc (suc (suc zero))) = (with_at 3, with_at 7, with_at 11)
  with_four (suc (suc (suc (suc p)))) =
      rw (le-ltb (suc (suc (suc (suc p)))) partition_count (omega arith)) (refl, refl, refl)

  with_drive : keys_in (key_stored drive_key_at new ks) ≡ with_drive_key new (keys_in ks)
  unfolding keys_in
  with_drive = with_at drive_key_at

-- the rules' keys after it
pub key_put_lem : (ks new : List ℕ) (slot p a : ℕ) → length ks ≡ keys_size → length new ≡ key_size
    → keys_in (key_stored (target_index slot p a) new ks) ≡ key_put slot p a new (keys_in ks)
unfolding target_index key_put
key_put_lem ks new slot p a e f = go (slot is 4) (slot is 3) (a is 0)
  where
    go : (four three zero? : Bool)
        → keys_in (key_stored (cond four drive_key_at (cond three (index_among_four partition_keys_from a)
        (cond zero? (index_among_four working0_from p) (index_among_four working1_from p)))) new ks)
        ≡ cond four (with_drive_key new (keys_in ks))
        (cond three (with_partition_key a new (keys_in ks))
        (cond zero? (with_working0 p new (keys_in ks)) (with_working1 p new (keys_in ks))))
    go true three zero? = with_drive ks new e f
    go false true zero? = (with_four ks new e f a).2
    go false false true = (with_four ks new e f p).0
    go false false false = (with_four ks new e f p).1

-- ---- a fresh drive
no_key : (i : ℕ) → i < key_count → key_at (replicate keys_size 0) i ≡ none
unfolding key_at
no_key i l = rw (get_or-replicate {A = ℕ} keys_size (flags_from + i) 0 0 (omega arith))

pub keys_none : keys_in (replicate keys_size 0) ≡ rules.new_keys none none
keys_none = keys_by_lem (replicate keys_size 0) (λ (i : ℕ). none) no_key

pub fresh_set : (master drive : List ℕ) → length master ≡ key_size → length drive ≡ key_size
    → keys_in (formatted_keys master drive) ≡ rules.new_keys (some master) (some drive)
unfolding formatted_keys
fresh_set master drive e f =
    rw (eq-eqb (length master) key_size e, eq-eqb (length drive) key_size f)
    (keys_by_lem (key_stored master_key_at master one) (λ (i : ℕ). cond (i is master_key_at) (some master) (cond (i is drive_key_at) (some drive) none))
    at_i)
  where
    zeros : List ℕ
    zeros = replicate keys_size 0

    one : List ℕ
    one = key_stored drive_key_at drive zeros

    at_i : (i : ℕ) → i < key_count
        → key_at (key_stored master_key_at master one) i ≡ cond (i is master_key_at) (some master) (cond (i is drive_key_at) (some drive) none)
    at_i i l =
        key_at_put one master master_key_at i (length_put drive_key_at drive zeros ∙ length-replicate {A = ℕ} keys_size 0) e l
        ∙ ap (λ (k : rules.Key). cond (i is master_key_at) (some master) k)
        (key_at_put zeros drive drive_key_at i (length-replicate {A = ℕ} keys_size 0) f l
        ∙ ap (λ (k : rules.Key). cond (i is drive_key_at) (some drive) k) (no_key i l))

pub fresh_none : (master drive : List ℕ) → (length master is key_size && length drive is key_size) ≡ false
    → keys_in (formatted_keys master drive) ≡ rules.new_keys none none
unfolding formatted_keys
fresh_none master drive h = rw h keys_none
