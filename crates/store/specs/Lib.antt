-- The issuer's and the digest's answers, of what C sees of them.
pub mod Exported
