-- What a callee leaves in a part of the medium, said of the whole.
pub mod Extent
