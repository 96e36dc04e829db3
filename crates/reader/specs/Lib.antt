pub mod Promises
pub mod WholeRecord
pub mod Arrivals
pub mod Answered
pub mod Made
pub mod Round
pub mod Session
pub mod Formatted
