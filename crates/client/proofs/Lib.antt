-- Demand 2 over the code's contracts, and laws for the proofs of the code.
pub mod RoundTrip
mod ClientLaws
