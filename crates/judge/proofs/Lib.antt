-- Rows that code judges from top to bottom, each by a `refuse` with a `?`.
pub mod Judged
