-- A frame that none of rows 2 to 6 refuses: where its parts start, its partition, and its parts as slices of it.
-- f: the frame. c, request: what its parse gave.
use mathlib.Core.Path.{◌≡◌, refl, subst, sym, ap, ◌∙◌}
use mathlib.Core.Bool.{false}
use mathlib.Core.List.{List, ◌++◌}
use Prim.Native.Nat.{ℕ, ◌+◌, ◌-◌, ◌<◌}
use native.Mathlib.Omega.{arith}
use lib.ListN.{length, take, drop}
use lib.Seq.{take-add, drop-drop}
use borrow.Author.Tests.{eqb-true, not-false}
use Rattle.lemmas.specs.Tests.{◌is◌, ◌isnt◌, or_r}
use Rattle.lemmas.specs.Lists.{every, part}
use Rattle.lemmas.specs.RowTable.{applies, none_applies}
use Rattle.rules.specs.declared.Credential.{Credential}
use Rattle.rules.specs.declared.PartStarts.{PartStarts}
use Rattle.rules.specs.Frame.{digest_size, fields, frame_length, frame_request, memory_index, part_starts, request_length, request_start}
use Rattle.rules.specs.Rows.{row4, row5, wrong_data, frame_rows}
use Rattle.rules.proofs.Clear.{low_partition, low_memory}
use Rattle.wire.specs.declared.ParsedRequest.{ParsedRequest}
use Rattle.wire.specs.Parse.{frame_row, numbers_of}
use Rattle.wire.specs.ParseLaws.{answered-fields}
use Rattle.keyring.specs.Keys.{partition_count}
use Rattle.memory.specs.Memory.{memory_count}
use Rattle.drive.specs.Admission.{ParsedTo, StartsHold}

module _ {f : List ℕ} {c : Credential} {request : ParsedRequest} (parsed : ParsedTo f c request) where
  pub parsed-row : frame_row f ≡ 0
  parsed-row = (answered-fields f (record { credential = c; request = request }) parsed.answer).0

  pub parsed-credential : c ≡ (fields f).cred
  parsed-credential = (answered-fields f (record { credential = c; request = request }) parsed.answer).1

  pub parsed-request : numbers_of request ≡ (fields f).req
  parsed-request = (answered-fields f (record { credential = c; request = request }) parsed.answer).2

  none : (n : ℕ) → applies n (frame_rows f (fields f)) ≡ false
  unfolding frame_row frame_rows every
  none n = none_applies (frame_rows f (fields f)) refl parsed-row n

  clear : (row4 (fields f).cred (fields f).req ≡ false) × (row5 (fields f).req f ≡ false)
  unfolding frame_rows applies
  clear = (none 4, none 5)

  parsed-starts : request.starts ≡ part_starts f
  parsed-starts = (answered-fields f (record { credential = c; request = request }) parsed.answer).3

  -- "the frame is as long as its parts together"
  long : length f ≡ (part_starts f).digest + digest_size
  unfolding fields
  long =
      let n : ℕ = frame_length (request_start f) (frame_request f) in
      eqb-true (length f) n (not-false (length f is n) (or_r (wrong_data (frame_request f)) (length f isnt n) clear.1))

  pub starts_hold : StartsHold f request.starts
  starts_hold = subst (StartsHold f) (sym parsed-starts)
      (record { places = refl; request = omega arith; payload = omega arith; long = long })

  -- the places of its partition and of its memory
  pub partition_is : c.partition ≡ (fields f).cred.partition
  partition_is = ap Credential.partition parsed-credential

  pub in_four : c.partition < partition_count
  in_four = let h = low_partition (fields f) clear.0 in omega (arith, partition_is)

  pub memory_is : memory_index c ≡ memory_index (fields f).cred
  memory_is = ap memory_index parsed-credential

  pub in_five : memory_index c < memory_count
  in_five = let h = low_memory (fields f) clear.0 in omega (arith, memory_is)

-- ---- the parts
module _ {f : List ℕ} {starts : PartStarts} (w : StartsHold f starts) where
  pub the_credential : take starts.request f ≡ (fields f).credential
  unfolding fields part
  the_credential = rw w.places refl

  pub both_records : take starts.payload f ≡ (fields f).credential ++ (fields f).request
  unfolding fields part
  both_records = rw w.places (take-add (request_start f) (request_length (frame_request f)) f)

  pub the_payload : take (starts.digest - starts.payload) (drop starts.payload f) ≡ (fields f).payload
  unfolding fields part
  the_payload =
      let e : (part_starts f).digest - (part_starts f).payload ≡ (frame_request f).n = omega arith in
      rw (w.places, e) refl

  pub the_digest : take (length f - starts.digest) (drop starts.digest f) ≡ (fields f).digest
  unfolding fields part
  the_digest =
      let e : length f - starts.digest ≡ digest_size = omega (arith, w.long) in
      rw (e, w.places) refl

  -- request and data, what a new key is made from
  pub request-and_data : take (starts.digest - starts.request) (drop starts.request f) ≡ (fields f).request ++ (fields f).payload
  unfolding fields part
  request-and_data =
      let k : ℕ = request_length (frame_request f) in
      let n : ℕ = (frame_request f).n in
      let e : (part_starts f).digest - (part_starts f).request ≡ k + n = omega arith in
      rw (w.places, e) (take-add k n (drop (request_start f) f)
      ∙ ap (λ (l : List ℕ). take k (drop (request_start f) f) ++ take n l) (drop-drop k (request_start f) f))
