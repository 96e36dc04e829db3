-- Demand 2, then the solver's read.
pub mod Demand2
pub mod Solver
