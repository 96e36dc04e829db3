-- A request put into a lent slice.
pub mod Put
