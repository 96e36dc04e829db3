-- What the parse's answer says, and what a caller has of it.
pub mod Parse
pub mod ParseLaws
