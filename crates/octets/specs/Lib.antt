-- What the crate's contracts say beyond the general definitions.
pub mod Numbers
pub mod Fields
pub mod Behind
