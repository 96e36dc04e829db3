-- `Worked` has the list that meets the rows, `Heads` that of change 2 of document 02, `Areas` that of change 3, `Tables`
-- that of change 5, `Groups` that of change 6; `Frames` what they are made of, `Signed` the laws by which row 9 is answered
-- without computing HMAC.
pub mod Signed
pub mod Frames
pub mod Worked
pub mod Heads
pub mod Areas
pub mod Tables
pub mod Groups
