-- Document 01, operation 5, as one pass over the objects.
pub mod Placing
