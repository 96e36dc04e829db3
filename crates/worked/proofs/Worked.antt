-- A list of calls to a fresh drive of 1,024 bytes, F = 1, and what the gate answers, computed without computing HMAC. It
-- meets every row of document 01's gate from 2 on but 21, and a grant of each of its operations; 21 needs another F, and
-- row 1 another record or medium.
use mathlib.Core.Path.{◌∙◌, ◌≡◌, ap, refl, subst, sym}
use mathlib.Core.Bool.{false, not}
use mathlib.Core.Option
use mathlib.Core.Option.{some}
use mathlib.Core.List.{[], ◌++◌, ◌∷◌, List, map}
use Prim.Native.Nat.{◌+◌, ℕ}
use lib.Dec.{T}
use lib.ListN.{drop, get_or, replicate, set}
use Rattle.lemmas.specs.Lists.{same}
use Rattle.rules.specs.declared.Credential.{Credential}
use Rattle.rules.specs.declared.Request.{Request}
use Rattle.rules.specs.Demands.{State}
use Rattle.rules.specs.Drive.{Drive, format, Key, Keys}
use Rattle.rules.specs.Frame.{request_magic}
use Rattle.rules.specs.Gate.{Call, gate, refused}
use Rattle.rules.specs.Operations.{key_in}
use Rattle.rules.specs.Program.{answered, broken, calls_in, calls_of, digits, left_in, left_of, lines_from, prints, program}
use Rattle.rules.specs.Report.{
  counters_from,
  counters,
  count_lines,
  count_of,
  counts_from,
  counts_in,
  counts_under,
  report,
  report_of,
}
use Rattle.worked.proofs.Frames.{
  ask,
  begin,
  by,
  drive_key,
  frames_opened,
  master_key,
  partition_key,
  put,
  seed,
  set_partition,
  sets_key,
  set_working,
  working_key,
}
use Rattle.worked.proofs.Signed.{
  AllKnown9,
  altered,
  answer_with,
  call_of,
  digests,
  frame,
  keys_with,
  known_append,
  known_times,
  Known9,
  leaves,
  opened,
  TestCall,
  pass,
  raw,
  right_digest,
  run,
  said,
  said_with_lem,
  signed,
  spread,
  times,
}

-- ---- the list
-- a frame whose digest is never looked at, at a clock reading
junk : ℕ → List ℕ → TestCall
junk clock f = raw (record { frame = f; clock = clock; space = replicate 64 9 })

first : List TestCall
first =
    junk 0 []
    ∷ junk 0 (replicate 96 0)
    ∷ junk 100 (set (frame drive_key set_partition sets_key seed) 2 4)
    ∷ junk 100 (frame drive_key set_partition sets_key seed ++ (0 ∷ []))
    ∷ junk 100 (set (frame drive_key set_partition sets_key seed) 11 1)
    ∷ junk 100 (frame drive_key (by 3 0 0 64 0 0 0) (ask 7 0 1 0 0 16) seed)
    ∷ junk 100 (frame working_key (by 0 0 1 16 0 0 0) (ask 5 0 2 5 10 0) [])
    ∷ altered drive_key set_partition sets_key seed 100 64
    ∷ signed drive_key set_partition sets_key seed 100 64
    ∷ signed drive_key set_partition sets_key seed 100 64
    ∷ signed partition_key set_working sets_key seed 100 64
    ∷ put (by 0 0 1 16 0 0 0) (ask 5 0 2 5 10 0) []
    ∷ put (by 0 0 1 16 0 0 0) (ask 5 0 3 5 1 0) []
    ∷ put (by 0 0 1 16 0 0 0) (ask 5 0 3 6 241 0) []
    ∷ put (by 0 5 2 2 0 0 10) (ask 2 0 4 3 4 4) (1 ∷ 2 ∷ 3 ∷ 4 ∷ [])
    ∷ put (by 0 5 2 1 0 0 10) (ask 1 0 5 2 6 0) []
    ∷ put (by 0 5 1 1 0 0 10) (ask 1 0 6 2 6 0) []
    ∷ put (by 0 5 2 2 0 0 10) (ask 1 0 6 2 6 0) []
    ∷ put (by 0 6 2 1 0 0 10) (ask 1 0 6 2 6 0) []
    ∷ put (by 0 5 2 1 0 0 10) (ask 1 0 6 8 4 0) []
    ∷ put (by 0 5 2 1 0 0 12) (ask 1 0 6 8 4 0) []
    ∷ put (by 0 5 2 8 0 0 0) (ask 4 0 7 0 0 0) []
    ∷ put (by 0 5 3 4 2 0 0) (ask 3 2 8 0 0 0) []
    ∷ signed working_key (by 0 5 3 1 0 0 10) (ask 1 0 9 2 6 0) [] 100 13
    ∷ put (by 0 5 3 32 0 0 0) (ask 6 0 9 0 0 0) []
    ∷ put (by 0 0 1 16 0 0 0) (ask 5 0 10 5 10 0) []
    ∷ put (by 0 5 4 1 0 0 10) (ask 1 0 11 2 6 0) []
    ∷ []

-- the definitions above, and all that the gate computes with
unfoldable first_frames : ℕ
unfolding frames_opened junk first
first_frames = 0

first_known : AllKnown9 begin first
unfolding first_frames
first_known = digests first

-- row, length and the reply of each
worked : said begin (map call_of first)
    ≡ ((2 ∷ 0 ∷ [])
    ∷ (3 ∷ 0 ∷ [])
    ∷ (4 ∷ 0 ∷ [])
    ∷ (5 ∷ 0 ∷ [])
    ∷ (6 ∷ 0 ∷ [])
    ∷ (7 ∷ 0 ∷ [])
    ∷ (8 ∷ 0 ∷ [])
    ∷ (9 ∷ 0 ∷ [])
    ∷ (0 ∷ 8 ∷ 0x4c ∷ 0x41 ∷ 7 ∷ 1 ∷ 0 ∷ 0 ∷ 0 ∷ 0 ∷ [])
    ∷ (12 ∷ 0 ∷ [])
    ∷ (0 ∷ 8 ∷ 0x4c ∷ 0x41 ∷ 7 ∷ 1 ∷ 0 ∷ 0 ∷ 0 ∷ 0 ∷ [])
    ∷ (0 ∷ 12 ∷ 0x4c ∷ 0x41 ∷ 5 ∷ 0 ∷ 0 ∷ 0 ∷ 0 ∷ 4 ∷ 0 ∷ 0 ∷ 0 ∷ 2 ∷ [])
    ∷ (18 ∷ 0 ∷ [])
    ∷ (20 ∷ 0 ∷ [])
    ∷ (0 ∷ 8 ∷ 0x4c ∷ 0x41 ∷ 2 ∷ 0 ∷ 0 ∷ 0 ∷ 0 ∷ 0 ∷ [])
    ∷ (0 ∷ 14 ∷ 0x4c ∷ 0x41 ∷ 1 ∷ 0 ∷ 0 ∷ 0 ∷ 0 ∷ 6 ∷ 0 ∷ 1 ∷ 2 ∷ 3 ∷ 4 ∷ 0 ∷ [])
    ∷ (15 ∷ 0 ∷ [])
    ∷ (13 ∷ 0 ∷ [])
    ∷ (14 ∷ 0 ∷ [])
    ∷ (16 ∷ 0 ∷ [])
    ∷ (17 ∷ 0 ∷ [])
    ∷ (0 ∷ 12 ∷ 0x4c ∷ 0x41 ∷ 4 ∷ 0 ∷ 0 ∷ 0 ∷ 0 ∷ 4 ∷ 0 ∷ 0 ∷ 0 ∷ 3 ∷ [])
    ∷ (0 ∷ 48 ∷ 0x4c ∷ 0x41 ∷ 3 ∷ 2 ∷ 0 ∷ 0 ∷ 0 ∷ 8 ∷ 0 ∷ 0 ∷ 0 ∷ 10 ∷ 0 ∷ 0 ∷ 0 ∷ 3 ∷ [])
    ∷ (23 ∷ 0 ∷ [])
    ∷ (0 ∷ 8 ∷ 0x4c ∷ 0x41 ∷ 6 ∷ 0 ∷ 0 ∷ 0 ∷ 0 ∷ 0 ∷ [])
    ∷ (0 ∷ 12 ∷ 0x4c ∷ 0x41 ∷ 5 ∷ 0 ∷ 0 ∷ 0 ∷ 0 ∷ 4 ∷ 0 ∷ 0 ∷ 0 ∷ 4 ∷ [])
    ∷ (0 ∷ 14 ∷ 0x4c ∷ 0x41 ∷ 1 ∷ 0 ∷ 0 ∷ 0 ∷ 0 ∷ 6 ∷ 0 ∷ 0 ∷ 0 ∷ 0 ∷ 0 ∷ 0 ∷ [])
    ∷ [])
unfolding first_frames
worked = said_with_lem begin first first_known

-- ---- a partition and a memory filled to the brim: 16 objects, then row 19; 64 entries, then row 22 while T + 5,000 is
-- at least the mark; room again once the mark has outlived them, and rows 11 and 10
-- rights, operation, count, A and B, on object 0
fill : ℕ → ℕ → ℕ → ℕ → ℕ → TestCall
fill rights operation count A B = put (by 0 0 1 rights 0 0 0) (ask operation 0 count A B 0) []

creates : ℕ → TestCall
creates k = fill 16 5 (20 + k) (20 + k) 1

looks : ℕ → TestCall
looks k = fill 4 3 (100 + k) 0 0

-- a look at time T and a clock reading
looks_at : ℕ → Request
looks_at T = record { magic = request_magic; operation = 3; level = 0; time = T; count = 99; A = 0; B = 0; n = 0; member = 0 }

look_at : ℕ → ℕ → TestCall
look_at T clock = signed working_key (by 0 0 1 4 0 0 0) (looks_at T) [] clock 64

crowded : List TestCall
crowded = creates 70 ∷ []

last : List TestCall
last = look_at 100 100 ∷ look_at 100 5100 ∷ look_at 5101 5101 ∷ look_at 100 5101 ∷ look_at 5101 9001 ∷ []

filling : List TestCall
filling = times 15 creates ++ (crowded ++ (times 40 looks ++ last))

unfoldable all_frames : ℕ
unfolding first_frames filling crowded last creates looks look_at looks_at fill
all_frames = 0

-- frames under the key that the drive holds, and that leave it there
abbrev HasKey : State → Type 0
HasKey s = key_in s.drive.tables.keys 0 0 ≡ some working_key

fill_known : (rights operation count A B : ℕ) (s : State) → HasKey s → Known9 s (fill rights operation count A B)
unfolding all_frames
fill_known rights operation count A B s e =
    subst (λ (key : Key). not (same (spread 32 (right_digest working_key c r []))
    (right_digest (Option.get_or key []) c r [])) ≡ false) (sym e)
    (pass working_key c r [])
  where
    c : Credential
    c = by 0 0 1 rights 0 0 0

    r : Request
    r = ask operation 0 count A B 0

creates-keep : (k : ℕ) (s : State) → HasKey s → HasKey (leaves (answer_with s (creates k)))
unfolding all_frames
creates-keep k s e =
    ap (λ (ks : Keys). key_in ks 0 0) (keys_with false s.drive s.medium (call_of (creates k))
    refl) ∙ e

looks_keep : (k : ℕ) (s : State) → HasKey s → HasKey (leaves (answer_with s (looks k)))
unfolding all_frames
looks_keep k s e =
    ap (λ (ks : Keys). key_in ks 0 0) (keys_with false s.drive s.medium (call_of (looks k))
    refl) ∙ e

all_known : AllKnown9 begin (first ++ filling)
unfolding all_frames
all_known =
    known_append begin first filling first_known
    (known_append (run begin first) (times 15 creates) (crowded ++ (times 40 looks ++ last))
    (known_times 15 creates HasKey (λ k s e. fill_known 16 5 (20 + k) (20 + k) 1 s e) creates-keep
    (run begin first) refl)
    (known_append (run (run begin first) (times 15 creates)) crowded (times 40 looks ++ last)
    (digests crowded)
    (known_append (run (run (run begin first) (times 15 creates)) crowded) (times 40 looks) last
    (known_times 40 looks HasKey (λ k s e. fill_known 4 3 (100 + k) 0 0 s e) looks_keep
    (run (run (run begin first) (times 15 creates)) crowded) refl)
    (digests last))))

filled : map (λ (l : List ℕ). get_or l 0 0) (drop 27 (said begin (map call_of (first ++ filling))))
    ≡ replicate 15 0 ++ (19 ∷ (replicate 40 0 ++ (22 ∷ 22 ∷ 0 ∷ 11 ∷ 10 ∷ [])))
unfolding all_frames
filled = ap (λ (a : List (List ℕ)). map (λ (l : List ℕ). get_or l 0 0) (drop 27 a))
    (said_with_lem begin (first ++ filling) all_known)

-- ---- row 21: the last version given is the largest, so create and raise are refused
spent : State
spent =
    let f = format (replicate 64 5) 4_294_967_295 master_key drive_key in
    record { drive = f.drive; medium = f.medium }

newest : List TestCall
newest =
    signed drive_key set_partition sets_key seed 100 64
    ∷ signed partition_key set_working sets_key seed 100 64
    ∷ put (by 0 0 4_294_967_295 16 0 0 0) (ask 5 0 2 5 1 0) []
    ∷ put (by 0 0 4_294_967_295 8 0 0 0) (ask 4 0 2 0 0 0) []
    ∷ []

no_version : map (λ (l : List ℕ). get_or l 0 0) (said spent (map call_of newest)) ≡ 0 ∷ 0 ∷ 21 ∷ 21 ∷ []
unfolding spent newest first_frames
no_version =
    ap (λ (a : List (List ℕ)). map (λ (l : List ℕ). get_or l 0 0) a)
    (said_with_lem spent newest (digests newest))

-- ---- row 1: a medium that is too short, and a record that is not sound; the drive comes back unchanged, with its mark
empty : ℕ → Call
empty clock = record { frame = []; clock = clock; space = [] }

too_short : gate begin.drive (replicate 1023 0) (empty 7) ≡ refused 1 begin.drive (replicate 1023 0) []
unfolding empty first_frames
too_short = refl

-- M over 16,777,216
large : Drive
large = record { size = 16_777_217; tables = begin.drive.tables; memories = begin.drive.memories }

unsound : gate large (replicate 1024 0) (empty 7) ≡ refused 1 large (replicate 1024 0) []
unfolding large empty first_frames
unsound = refl

-- ---- document 01's example of the program: an empty frame and then 96 zero bytes, clocks 0, print `1 2 0`, `2 3 0`,
-- `end 2`
abbrev example_input : List ℕ
example_input = 0x4c ∷ 0x49 ∷ (replicate 12 0 ++ (0x4c ∷ 0x49 ∷ (replicate 11 0 ++ (96 ∷ replicate 96 0))))

example : program example_input
    ≡ 49 ∷ 32 ∷ 50 ∷ 32 ∷ 48 ∷ 10 ∷ 50 ∷ 32 ∷ 51 ∷ 32 ∷ 48 ∷ 10 ∷ 101 ∷ 110 ∷ 100 ∷ 32 ∷ 50 ∷ 10 ∷ []
unfolding program prints calls_in calls_of left_in left_of answered lines_from broken digits opened
example = refl

-- document 02's of the shift report, change 1: of the same input `none 2 1`, `none 3 1`, `calls 2`
example_report : report example_input
    ≡ 110 ∷ 111 ∷ 110 ∷ 101 ∷ 32 ∷ 50 ∷ 32 ∷ 49 ∷ 10 ∷ 110 ∷ 111 ∷ 110 ∷ 101 ∷ 32 ∷ 51 ∷ 32 ∷ 49 ∷ 10
    ∷ 99 ∷ 97 ∷ 108 ∷ 108 ∷ 115 ∷ 32 ∷ 50 ∷ 10 ∷ []
unfolding report report_of count_lines counts_in counts_from counters counters_from count_of counts_under
    calls_in calls_of answered broken digits opened
example_report = refl
