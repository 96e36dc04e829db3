-- Document 01, "Nonce memories": a replay memory as the rules see it.
pub mod Memory
pub mod Entries
pub mod Moves
