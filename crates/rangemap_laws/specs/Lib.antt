pub mod GapPartition
pub mod SmallLists
pub mod IteratorEnds
pub mod Runs
pub mod Refusals
