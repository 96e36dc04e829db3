-- Document 01, read in this order; of document 02 what operations need, before the drive that holds it; what a group object holds,
-- before the rows that look at it; the two heads, the sixteen-byte steps, the operation table and the group credential, behind
-- the demands; and the shift report, behind the program whose input it reads. What a change made of a rule stands at the rule.
pub mod Frame
pub mod Needs
pub mod Drive
pub mod Scope
pub mod BestFit
pub mod Operations
pub mod Group
pub mod Rows
pub mod Refusals
pub mod Gate
pub mod Client
pub mod Ledger
pub mod Demands
pub mod TwoHeads
pub mod Steps
pub mod OperationTable
pub mod GroupCredential
pub mod Story
pub mod Program
pub mod Report
pub mod Cases
