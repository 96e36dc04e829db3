-- The records of a frame and the results that are numbers, encoded and decoded.
pub mod Coding
pub mod Answers
