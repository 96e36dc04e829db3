-- Rows 10 to 23 of one partition and one replay memory.
pub mod Judge
pub mod Times
