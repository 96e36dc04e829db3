pub mod Arrival
pub mod ArrivalLaws
pub mod Parsing
