-- Laws of the rules that the code's proofs use; then the customer's demands 1 and 3, the customer's story, what row 12
-- answers, where new extents start, which operation tables are reached and what is granted through a group, over the code's own
-- contracts.
mod Memories
mod Tables
pub mod Frames
pub mod RowsPassed
pub mod Grants
pub mod Admitting
pub mod Whole
pub mod Gates
pub mod Scopes
pub mod Demand1
pub mod Calls
pub mod Demand3
pub mod ChainStory
pub mod ChainRepeats
pub mod ChainSteps
pub mod ChainTables
pub mod ChainGroups
pub mod LentCalls
