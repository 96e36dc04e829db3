-- Laws that this crate's own proofs use.
mod Places
