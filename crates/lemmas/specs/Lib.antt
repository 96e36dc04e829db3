-- General definitions and their laws, cited by every other crate. No product meaning.
pub mod Tests
pub mod Lists
pub mod ListLaws
pub mod Parts
pub mod RowTable
pub mod BigEndian
pub mod Binary
pub mod BinaryLaws
pub mod Fill
pub mod Bits
pub mod Layout
pub mod Same
pub mod Loops
pub mod Fronts
pub mod Zips
pub mod Chunks
pub mod Options
