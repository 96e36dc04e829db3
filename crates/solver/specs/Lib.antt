-- What the two exported calls answer.
pub mod Exported
pub mod CheckedLaws
