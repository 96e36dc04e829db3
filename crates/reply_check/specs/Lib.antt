-- What the reply check promises, and the shape of a reply.
pub mod Met
pub mod Shape
pub mod CheckLaws
