-- The drive's keys in their bytes, and the laws that callers use.
pub mod Keys
pub mod KeyLaws
