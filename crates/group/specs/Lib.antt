-- What the crate's contracts say beyond the rules' definitions.
pub mod GroupRow
