-- How the code tests that objects are sound, and apart.
pub mod Spans
