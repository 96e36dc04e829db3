-- Laws of needs: a table's bytes, and the table that they spell.
pub mod TableBytes
