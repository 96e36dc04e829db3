-- What an operation does to the medium, and that it is what the rules perform.
pub mod Effect
pub mod Performed
