-- What operations make of a partition's table, which is what the rules make of the partition.
pub mod Partition
pub mod Applied
