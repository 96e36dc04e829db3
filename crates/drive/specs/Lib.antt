-- The record as the rules see it, the promises of format and gate, and the customer's demands over these promises, of calls on a
-- record and on lent parts.
pub mod View
pub mod Admission
pub mod Answers
pub mod Met
pub mod Chain
pub mod ChainStory
pub mod ChainRepeats
pub mod ChainSteps
pub mod ChainTables
pub mod ChainGroups
pub mod Lent
