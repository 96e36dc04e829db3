-- A credential put into a lent slice.
pub mod Put
