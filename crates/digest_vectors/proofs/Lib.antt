pub mod Text
pub mod Vectors
