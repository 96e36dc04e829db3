-- Change 3 of document 02, a list of calls computed: a drive whose areas start off a step, 0 to 19 and 25 to 99 of a quarter of
-- 100, is sound. "areas 0–19, 25–99 with B = 5 now give row 20"; with the second of them gone, new areas start at 32, at 48,
-- since the twelve bytes from 20 to 31 end at a multiple, and at 64, where 36 bytes remain of the forty from 60 on.
use mathlib.Core.Path.{◌≡◌, ap, refl}
use mathlib.Core.Bool.{true}
use mathlib.Core.Option.{none, some}
use mathlib.Core.List.{[], ◌∷◌, List, map}
use Prim.Native.Nat.{ℕ}
use lib.ListN.{get_or, replicate}
use Rattle.rules.specs.declared.Credential.{Credential}
use Rattle.rules.specs.declared.Object.{Object}
use Rattle.rules.specs.Demands.{after, State}
use Rattle.rules.specs.Drive.{empty_partition, partition_at, sound}
use Rattle.rules.specs.Needs.{default_needs}
use Rattle.worked.proofs.Frames.{ask, by, frames_opened, put, working_key}
use Rattle.worked.proofs.Signed.{after_with, AllKnown9, call_of, digests, said, said_with_lem, TestCall}

-- ---- the drive: 400 bytes, objects 1 and 2 in versions 2 and 3, and the working key
anywhere : State
anywhere = record {
  drive = record {
    size = 400;
    tables = record {
      high_water = 0;
      keys = record {
        master = none;
        drive = none;
        partition = replicate 4 none;
        working0 = some working_key ∷ replicate 3 none;
        working1 = replicate 4 none;
      };
      partitions = record {
        version = 1;
        last = 3;
        needs = default_needs;
        objects = record { number = 1; version = 2; size = 20; start = 0 } ∷ record { number = 2; version = 3; size = 75; start = 25 } ∷ [];
      } ∷ replicate 3 (empty_partition 1);
    };
    memories = replicate 5 [];
  };
  medium = replicate 400 7;
}

-- "row 1 asks for no such step"
anywhere_sound : sound anywhere.drive ≡ true
unfolding anywhere frames_opened
anywhere_sound = refl

-- ---- the list
creates : Credential
creates = by 0 0 1 16 0 0 0

deletes : Credential
deletes = by 0 2 3 32 0 0 0

areas : List TestCall
areas =
    put creates (ask 5 0 1 3 5 0) []
    ∷ put deletes (ask 6 0 2 0 0 0) []
    ∷ put creates (ask 5 0 3 3 5 0) []
    ∷ put creates (ask 5 0 4 4 12 0) []
    ∷ put creates (ask 5 0 5 5 37 0) []
    ∷ put creates (ask 5 0 6 5 36 0) []
    ∷ put creates (ask 5 0 7 6 1 0) []
    ∷ []

areas_known : AllKnown9 anywhere areas
unfolding anywhere areas creates deletes frames_opened
areas_known = digests areas

-- the row of each
placed-or_20 : map (λ (l : List ℕ). get_or l 0 0) (said anywhere (map call_of areas)) ≡ 20 ∷ 0 ∷ 0 ∷ 0 ∷ 20 ∷ 0 ∷ 20 ∷ []
unfolding anywhere areas creates deletes frames_opened
placed-or_20 = ap (λ (a : List (List ℕ)). map (λ (l : List ℕ). get_or l 0 0) a) (said_with_lem anywhere areas areas_known)

-- and where the areas start that are there in the end
abbrev starts_in : State → List ℕ
starts_in s = map Object.start (partition_at s.drive.tables 0).objects

left_at : starts_in (after anywhere (map call_of areas)) ≡ 0 ∷ 32 ∷ 48 ∷ 64 ∷ []
unfolding anywhere areas creates deletes frames_opened
left_at = ap starts_in (after_with anywhere areas areas_known)
