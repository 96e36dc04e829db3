-- What start, absorb and finish make of a hash, whatever it holds: h is a hash, p a part of a message, l the bytes that the
-- hash holds back with those that come after them. Section numbers are those of FIPS 180-4.
use Rattle.std.specs.Prelude.{ℕ, ◌+◌, ◌*◌, ◌/◌, ◌%◌, ◌^◌, List, ◌++◌, length, take, drop, replicate}
use Rattle.sha256_block.specs.declared.State.{State}
use Rattle.sha256_block.specs.Sha256.{padding, blocks, bytes, H₀}
use Rattle.sha256_stream.specs.declared.Hash.{Hash}

-- a hash of no bytes (5.3.3)
unfoldable pub started : Hash
started = record { chain = H₀; pending = replicate 64 0; total = 0 }

-- what is held back, the bytes of a block that is not full, and p after them
abbrev pub held_with : Hash → List ℕ → List ℕ
held_with h p = take (h.total % 64) h.pending ++ p

-- each whole block of l worked in (6.2.2)
abbrev pub worked_in : State → List ℕ → State
worked_in s l = blocks (length l / 64) s l

-- the 64 bytes b with the front of l put over them, and then the bytes of l after its last whole block; only these count
abbrev pub pending_after : List ℕ → List ℕ → List ℕ
pending_after b l = drop (length l / 64 * 64) l ++ drop (length l % 64) (take 64 (l ++ drop (length l) b))

-- h with the part p taken
unfoldable pub absorbed : Hash → List ℕ → Hash
absorbed h p =
    record {
      chain = worked_in h.chain (held_with h p);
      pending = pending_after h.pending (held_with h p);
      total = (h.total + length p) % 2 ^ 64;
    }

-- its digest: the padding of as many bytes as h counts (5.1.1) goes after what it holds back
unfoldable pub finished : Hash → List ℕ
finished h = bytes (worked_in h.chain (held_with h (padding h.total)))
