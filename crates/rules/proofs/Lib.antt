-- The theorems over document 01's definitions: demand 1 (`Answers`), demand 2 (`RoundTrip`, `RepliesBack`), demand 3
-- (`Demand`), the placing rule (`Placing`), the customer's story (`OneLog`, `OpensNothing`); and over document 02's: the
-- shift report (`Counts`), the two heads (`TwoHeads`), the sixteen-byte steps (`Steps`), the operation table
-- (`OperationTable`), the group credential (`GroupCredential`). The other files lead to these.
pub mod Answers
-- a table of rows, judged by a `?` for each
pub mod Refused
-- the placing rule
pub mod Gaps
pub mod Placing
-- soundness, and what is known of a frame that no row refuses
pub mod Sound
pub mod Clear
pub mod Memories
pub mod Keeps
pub mod Edges
-- the ledger, one call, and every list of calls
pub mod Bare
pub mod Holds
pub mod Step
pub mod Known
pub mod Shown
pub mod Demand
-- versions and logs
pub mod Finds
pub mod Renewal
pub mod Passed
pub mod Versions
pub mod OneLog
pub mod OpensNothing
-- frames and replies
pub mod RoundTrip
pub mod RepliesBack
pub mod Demand2
-- the shift report
pub mod Counts
-- the two heads
pub mod TwoHeads
-- the sixteen-byte steps
pub mod Steps
-- the operation table
pub mod OperationTable
-- the group credential
pub mod BytesBack
pub mod GroupCredential
