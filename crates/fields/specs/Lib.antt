-- What the crate's contracts say beyond document 01's definitions.
pub mod Records
