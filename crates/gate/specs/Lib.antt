pub mod Promises
pub mod Lines
pub mod Rounds
