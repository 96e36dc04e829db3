-- What the worked lists of calls are made of: records, keys, the drive that they start from, and frames under its working
-- key.
use mathlib.Core.List.{◌++◌, List}
use Prim.Native.Nat.{ℕ}
use lib.ListN.{replicate}
use Rattle.digest.specs.Hmac.{hmac}
use Rattle.rules.specs.declared.Credential.{Credential}
use Rattle.rules.specs.declared.Request.{Request}
use Rattle.rules.specs.Demands.{State}
use Rattle.rules.specs.Drive.{format}
use Rattle.rules.specs.Frame.{credential_magic, request_bytes, request_magic}
use Rattle.worked.proofs.Signed.{opened, signed, TestCall}

-- ---- records
-- slot, object, version, rights, least level, first and end; partition 0, expiry 9,000, holder 7
unfoldable pub by : ℕ → ℕ → ℕ → ℕ → ℕ → ℕ → ℕ → Credential
by slot object version rights least first end = record {
  magic = credential_magic;
  partition = 0;
  slot = slot;
  object = object;
  version = version;
  rights = rights;
  least = least;
  zero = 0;
  first = first;
  end = end;
  expiry = 9000;
  holder = 7;
}

-- operation, level, count, A, B and n; time 100
unfoldable pub ask : ℕ → ℕ → ℕ → ℕ → ℕ → ℕ → Request
ask operation level count A B n = record {
  magic = request_magic;
  operation = operation;
  level = level;
  time = 100;
  count = count;
  A = A;
  B = B;
  n = n;
  member = 0;
}

-- ---- the keys: the drive's partition key and working key 0 of partition 0, as operation 7 makes them
unfoldable pub master_key : List ℕ
master_key = replicate 32 0

unfoldable pub drive_key : List ℕ
drive_key = replicate 32 1

unfoldable pub seed : List ℕ
seed = replicate 16 3

unfoldable pub sets_key : Request
sets_key = ask 7 1 1 0 0 16

unfoldable pub partition_key : List ℕ
partition_key = hmac drive_key (request_bytes sets_key ++ seed)

unfoldable pub working_key : List ℕ
working_key = hmac partition_key (request_bytes sets_key ++ seed)

-- ---- the drive: 1,024 bytes, so that a quarter has sixteen steps; F = 1
unfoldable pub begin : State
begin =
    let f = format (replicate 1024 5) 1 master_key drive_key in
    record { drive = f.drive; medium = f.medium }

-- ---- frames
-- a frame under working key 0, at clock 100 with 64 bytes for the reply
unfoldable pub put : Credential → Request → List ℕ → TestCall
put c r payload = signed working_key c r payload 100 64

-- the partition key is set by the drive key, the working key by the partition key
unfoldable pub set_partition : Credential
set_partition = by 3 0 0 64 1 0 0

unfoldable pub set_working : Credential
set_working = by 2 0 0 64 1 0 0

-- the definitions above, and all that the gate computes with
unfoldable pub frames_opened : ℕ
unfolding opened by ask master_key drive_key seed sets_key partition_key working_key begin put set_partition set_working
frames_opened = 0
