-- Demand 2 over the code's own contract.
pub mod RoundTrip
