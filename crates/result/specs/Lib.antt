-- The result in the reply space, and that it is the rules' result.
pub mod Result
pub mod Performed
