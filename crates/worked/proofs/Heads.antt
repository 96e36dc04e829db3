-- Change 2 of document 02, a list of calls computed: two heads run as holder 7, one at object 5, one at object 6, in versions 2
-- and 3. Both count from 0: each one's first frame is granted, and again it is 12. A look at object 5 under that count is 12
-- too, at the partition (object 0) it is granted once.
use mathlib.Core.Path.{◌≡◌, ap}
use mathlib.Core.List.{[], ◌∷◌, List, map}
use Prim.Native.Nat.{ℕ}
use lib.ListN.{get_or}
use Rattle.rules.specs.declared.Credential.{Credential}
use Rattle.rules.specs.declared.Request.{Request}
use Rattle.worked.proofs.Frames.{
  ask,
  begin,
  by,
  drive_key,
  frames_opened,
  partition_key,
  put,
  seed,
  set_partition,
  sets_key,
  set_working,
}
use Rattle.worked.proofs.Signed.{call_of, digests, said, said_with_lem, signed, TestCall}

head_credential : ℕ → ℕ → Credential
head_credential object version = by 0 object version 5 0 0 10

head_read : Request
head_read = ask 1 0 0 2 6 0

head_look : Request
head_look = ask 3 0 0 0 0 0

heads : List TestCall
heads =
    signed drive_key set_partition sets_key seed 100 64
    ∷ signed partition_key set_working sets_key seed 100 64
    ∷ put (by 0 0 1 16 0 0 0) (ask 5 0 1 5 10 0) []
    ∷ put (by 0 0 1 16 0 0 0) (ask 5 0 2 6 10 0) []
    ∷ put (head_credential 5 2) head_read []
    ∷ put (head_credential 6 3) head_read []
    ∷ put (head_credential 5 2) head_read []
    ∷ put (head_credential 6 3) head_read []
    ∷ put (head_credential 5 2) head_look []
    ∷ put (head_credential 0 1) head_look []
    ∷ put (head_credential 0 1) head_look []
    ∷ []

both_heads : map (λ (l : List ℕ). get_or l 0 0) (said begin (map call_of heads))
    ≡ 0 ∷ 0 ∷ 0 ∷ 0 ∷ 0 ∷ 0 ∷ 12 ∷ 12 ∷ 12 ∷ 0 ∷ 12 ∷ []
unfolding heads head_credential head_read head_look frames_opened
both_heads =
    ap (λ (a : List (List ℕ)). map (λ (l : List ℕ). get_or l 0 0) a)
    (said_with_lem begin heads (digests heads))
