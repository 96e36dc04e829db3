-- The two standards, what a keyed stream makes of any keyed hash, what that holds after a message, and the answers of the two
-- calls; then laws for other crates to cite.
pub mod Sha256
pub mod Hmac
pub mod Mac
pub mod Keyed
pub mod Digest
pub mod DigestLaws
pub mod KeyedLaws
