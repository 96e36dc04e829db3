-- The whole reply in its space; that it is the rules' reply stands in proofs/, for other crates to cite.
pub mod Reply
