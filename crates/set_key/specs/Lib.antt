-- The keys after an operation, and the law between the rules' keys and their bytes.
pub mod Keys
pub mod KeysAfter
