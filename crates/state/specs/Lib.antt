-- A partition's table as the rules see it, and what operations 4 to 6 and 8, and format, make of it.
pub mod Padded
pub mod Table
pub mod Places
pub mod Columns
pub mod Changes
pub mod Stores
pub mod Steps
pub mod Loads
