-- What a stream makes of any hash, and what a hash holds after a message; the laws between the two stand in proofs/, for other crates to cite.
pub mod Stream
pub mod Absorbed
