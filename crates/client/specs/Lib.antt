-- What the issuer and the builder answer and promise.
pub mod Answers
pub mod Met
