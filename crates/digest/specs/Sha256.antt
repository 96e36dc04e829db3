-- FIPS 180-4 stands in the crate of its compression, sha256_block. Its names are these too.
pub use Rattle.sha256_block.specs.Sha256.{◌⊕◌, ◌⊞◌, complement, SHR, ROTR, Ch, Maj, Σ₀, Σ₁, σ₀, σ₁, bytes}
unfoldable pub use Rattle.sha256_block.specs.Sha256.{K, zero_bits, padding_bits, padding, pad, words, H₀, next, extend, schedule, round, rounds}
unfoldable pub use Rattle.sha256_block.specs.Sha256.{added, compress, blocks, sha256}
