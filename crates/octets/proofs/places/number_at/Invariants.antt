-- The loop's invariant: what the bytes passed spell, and its bound, from which no sum wraps.
use Rattle.std.proofs.Common.{◌≡◌, ◌<◌, ◌^◌}
use Rattle.lemmas.specs.BigEndian.{number_at}
use Rattle.octets.proofs.places.number_at.Given as goal

abbrev pub invariant-loop-byte : goal.invariant-loop-byte
invariant-loop-byte l = (l.r ≡ number_at l.s l.at l.byte-index) × (l.r < 256 ^ l.byte-index)
