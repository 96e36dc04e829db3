-- The calls of both ends; then what holds of them together: demand 2, and what the solver believes.
pub mod Calls
pub mod Demand2
pub mod Solver
