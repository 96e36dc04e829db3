-- Change 6 of document 02, a list of calls computed. Object 8 is a group of eight bytes, logs 5, 7 and 9 have six, ten and twelve.
-- Its list is 5, 9: reads, writes and looks reach the member, by its size; range, version and nonce are the group credential's.
-- Then bytes that are no list, a group that lists itself, and frames that rows 5 and 6 refuse.
use mathlib.Core.Path.{◌≡◌, ap}
use mathlib.Core.List.{[], ◌++◌, ◌∷◌, List, map}
use Prim.Native.Nat.{ℕ}
use lib.ListN.{get_or, replicate, take}
use Rattle.rules.specs.declared.Credential.{Credential}
use Rattle.rules.specs.declared.Request.{Request}
use Rattle.rules.specs.Frame.{group_magic}
use Rattle.worked.proofs.Frames.{
  ask,
  begin,
  by,
  drive_key,
  frames_opened,
  partition_key,
  put,
  seed,
  set_partition,
  sets_key,
  set_working,
  working_key,
}
use Rattle.worked.proofs.Signed.{AllKnown9, call_of, digests, frame, raw, said, said_with_lem, signed, TestCall}

-- ---- frames
-- a group credential for reading, writing and looking: the group's number, its version, first and end
group : ℕ → ℕ → ℕ → ℕ → Credential
group object version first end = by 0 object version 135 0 first end

-- the request with a group's mark, for a member
to : ℕ → Request → Request
to member r = record {
  magic = group_magic;
  operation = r.operation;
  level = r.level;
  time = r.time;
  count = r.count;
  A = r.A;
  B = r.B;
  n = r.n;
  member = member;
}

-- a read, a write, a look: a count, A and B, the data
reads : ℕ → ℕ → ℕ → Request
reads count A B = ask 1 0 count A B 0

writes : ℕ → ℕ → ℕ → Request
writes count A B = ask 2 0 count A B B

looks : ℕ → Request
looks count = ask 3 0 count 0 0 0

creates : ℕ → ℕ → ℕ → TestCall
creates count number size = put (by 0 0 1 16 0 0 0) (ask 5 0 count number size 0) []

raises : ℕ → ℕ → ℕ → TestCall
raises count object version = put (by 0 object version 8 0 0 0) (ask 4 0 count 0 0 0) []

-- the list of object 8, in its version, under a credential of its own
lists : ℕ → ℕ → List ℕ → TestCall
lists count version bytes = put (by 0 8 version 2 0 0 8) (writes count 0 8) bytes

two : ℕ → ℕ → List ℕ
two a b = 0 ∷ 0 ∷ 0 ∷ a ∷ 0 ∷ 0 ∷ 0 ∷ b ∷ []

-- a frame that rows 1 to 8 refuse
early : List ℕ → TestCall
early f = raw (record { frame = f; clock = 100; space = replicate 64 9 })

-- ---- the list
groups : List TestCall
groups =
    signed drive_key set_partition sets_key seed 100 64
    ∷ signed partition_key set_working sets_key seed 100 64
    ∷ creates 1 5 6
    ∷ creates 2 8 8
    ∷ creates 3 7 10
    -- before the list is written the group is zeros; an old version comes first, no group before that
    ∷ put (group 8 3 0 12) (to 5 (reads 4 0 6)) []
    ∷ put (group 8 2 0 12) (to 5 (reads 4 0 6)) []
    ∷ put (group 6 3 0 12) (to 5 (reads 4 0 6)) []
    ∷ lists 4 3 (two 5 9)
    -- member 7, which is there, and member 0 are not listed; member 9 is not there yet, and that comes before the range
    ∷ put (group 8 3 0 12) (to 7 (reads 5 0 6)) []
    ∷ put (group 8 3 0 12) (to 0 (reads 5 0 6)) []
    ∷ put (group 8 3 0 12) (to 9 (reads 5 0 6)) []
    ∷ put (group 8 3 2 8) (to 9 (reads 5 7 2)) []
    -- past the credential's range; past the member's size, though within the group's; without the right
    ∷ put (group 8 3 0 5) (to 5 (reads 5 0 6)) []
    ∷ put (group 8 3 0 12) (to 5 (reads 5 0 8)) []
    ∷ put (by 0 8 3 132 0 0 12) (to 5 (reads 5 0 6)) []
    -- a write through the group is read back through it and by the log's own credential; the group's bytes stay the list
    ∷ put (group 8 3 0 12) (to 5 (writes 6 1 3)) (1 ∷ 2 ∷ 3 ∷ [])
    ∷ put (group 8 3 0 12) (to 5 (reads 7 0 6)) []
    ∷ put (by 0 5 2 1 0 0 6) (reads 8 0 6) []
    ∷ put (by 0 8 3 1 0 0 8) (reads 9 0 8) []
    -- two members under one time and count are a repeat; log 9, once it is there, is read past the group's size
    ∷ creates 10 9 12
    ∷ put (group 8 3 0 12) (to 5 (looks 11)) []
    ∷ put (group 8 3 0 12) (to 9 (looks 11)) []
    ∷ put (group 8 3 0 12) (to 9 (reads 12 8 4)) []
    -- the log raised: a look through the group has its new version; the group raised: its old credential opens nothing
    ∷ raises 13 5 2
    ∷ put (group 8 3 0 12) (to 5 (looks 14)) []
    ∷ raises 15 8 3
    ∷ put (group 8 3 0 12) (to 5 (looks 16)) []
    ∷ put (group 8 7 0 12) (to 5 (looks 16)) []
    -- no lists: two equal numbers, falling ones, six bytes
    ∷ lists 17 7 (two 5 5)
    ∷ put (group 8 7 0 12) (to 5 (looks 18)) []
    ∷ lists 18 7 (two 9 5)
    ∷ put (group 8 7 0 12) (to 5 (looks 19)) []
    ∷ creates 19 10 6
    ∷ put (by 0 10 8 2 0 0 6) (writes 20 0 6) (0 ∷ 0 ∷ 0 ∷ 5 ∷ 0 ∷ 0 ∷ [])
    ∷ put (group 10 8 0 12) (to 5 (looks 21)) []
    -- a group that lists itself: a write through it changes its own list
    ∷ lists 21 7 (two 5 8)
    ∷ put (group 8 7 0 12) (to 8 (writes 22 4 4)) (0 ∷ 0 ∷ 0 ∷ 9 ∷ [])
    ∷ put (group 8 7 0 12) (to 8 (looks 23)) []
    ∷ put (group 8 7 0 12) (to 9 (looks 23)) []
    -- 4C 52 under a group credential, 4C 47 without bit 7, operation 4, object 0; 99 bytes and 101
    ∷ early (frame working_key (group 8 7 0 12) (reads 24 0 6) [])
    ∷ early (frame working_key (by 0 5 6 1 0 0 6) (to 5 (reads 24 0 6)) [])
    ∷ early (frame working_key (by 0 8 7 255 0 0 12) (to 5 (ask 4 0 24 0 0 0)) [])
    ∷ early (frame working_key (by 0 0 1 135 0 0 12) (to 5 (looks 24)) [])
    ∷ early (take 99 (frame working_key (group 8 7 0 12) (to 5 (reads 24 0 6)) []))
    ∷ early (frame working_key (group 8 7 0 12) (to 5 (reads 24 0 6)) [] ++ (0 ∷ []))
    ∷ []

unfoldable groups_opened : ℕ
unfolding frames_opened group to reads writes looks creates raises lists two early groups
groups_opened = 0

groups_known : AllKnown9 begin groups
unfolding groups_opened
groups_known = digests groups

-- the row of each
groups_said : map (λ (l : List ℕ). get_or l 0 0) (said begin (map call_of groups))
    ≡ 0 ∷ 0 ∷ 0 ∷ 0 ∷ 0
    ∷ 32 ∷ 15 ∷ 14 ∷ 0
    ∷ 33 ∷ 33 ∷ 34 ∷ 34
    ∷ 16 ∷ 17 ∷ 13
    ∷ 0 ∷ 0 ∷ 0 ∷ 0
    ∷ 0 ∷ 0 ∷ 12 ∷ 0
    ∷ 0 ∷ 0 ∷ 0 ∷ 15 ∷ 0
    ∷ 0 ∷ 32 ∷ 0 ∷ 32 ∷ 0 ∷ 0 ∷ 32
    ∷ 0 ∷ 0 ∷ 33 ∷ 0
    ∷ 6 ∷ 6 ∷ 6 ∷ 6 ∷ 5 ∷ 5
    ∷ []
unfolding groups_opened
groups_said = ap (λ (a : List (List ℕ)). map (λ (l : List ℕ). get_or l 0 0) a) (said_with_lem begin groups groups_known)

-- and of grants through the group what their replies show: log 5 read through it and by its own credential, the group's own bytes;
-- its size and version looked at; log 9's last bytes; log 5 after its raise, after the group's; log 9
groups_shown : map (λ (k : ℕ). get_or (said begin (map call_of groups)) k []) (17 ∷ 18 ∷ 19 ∷ 21 ∷ 23 ∷ 25 ∷ 28 ∷ 39 ∷ [])
    ≡ (0 ∷ 14 ∷ 0x4c ∷ 0x41 ∷ 1 ∷ 0 ∷ 0 ∷ 0 ∷ 0 ∷ 6 ∷ 0 ∷ 1 ∷ 2 ∷ 3 ∷ 0 ∷ 0 ∷ [])
    ∷ (0 ∷ 14 ∷ 0x4c ∷ 0x41 ∷ 1 ∷ 0 ∷ 0 ∷ 0 ∷ 0 ∷ 6 ∷ 0 ∷ 1 ∷ 2 ∷ 3 ∷ 0 ∷ 0 ∷ [])
    ∷ (0 ∷ 16 ∷ 0x4c ∷ 0x41 ∷ 1 ∷ 0 ∷ 0 ∷ 0 ∷ 0 ∷ 8 ∷ 0 ∷ 0 ∷ 0 ∷ 5 ∷ 0 ∷ 0 ∷ 0 ∷ 9 ∷ [])
    ∷ (0 ∷ 16 ∷ 0x4c ∷ 0x41 ∷ 3 ∷ 0 ∷ 0 ∷ 0 ∷ 0 ∷ 8 ∷ 0 ∷ 0 ∷ 0 ∷ 6 ∷ 0 ∷ 0 ∷ 0 ∷ 2 ∷ [])
    ∷ (0 ∷ 12 ∷ 0x4c ∷ 0x41 ∷ 1 ∷ 0 ∷ 0 ∷ 0 ∷ 0 ∷ 4 ∷ 0 ∷ 0 ∷ 0 ∷ 0 ∷ [])
    ∷ (0 ∷ 16 ∷ 0x4c ∷ 0x41 ∷ 3 ∷ 0 ∷ 0 ∷ 0 ∷ 0 ∷ 8 ∷ 0 ∷ 0 ∷ 0 ∷ 6 ∷ 0 ∷ 0 ∷ 0 ∷ 6 ∷ [])
    ∷ (0 ∷ 16 ∷ 0x4c ∷ 0x41 ∷ 3 ∷ 0 ∷ 0 ∷ 0 ∷ 0 ∷ 8 ∷ 0 ∷ 0 ∷ 0 ∷ 6 ∷ 0 ∷ 0 ∷ 0 ∷ 6 ∷ [])
    ∷ (0 ∷ 16 ∷ 0x4c ∷ 0x41 ∷ 3 ∷ 0 ∷ 0 ∷ 0 ∷ 0 ∷ 8 ∷ 0 ∷ 0 ∷ 0 ∷ 12 ∷ 0 ∷ 0 ∷ 0 ∷ 5 ∷ [])
    ∷ []
unfolding groups_opened
groups_shown =
    ap (λ (a : List (List ℕ)). map (λ (k : ℕ). get_or a k []) (17 ∷ 18 ∷ 19 ∷ 21 ∷ 23 ∷ 25 ∷ 28 ∷ 39 ∷ []))
    (said_with_lem begin groups groups_known)
