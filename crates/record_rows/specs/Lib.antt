-- What the crate's contracts say beyond document 01's rows.
pub mod Refusals
pub mod BadRecords
