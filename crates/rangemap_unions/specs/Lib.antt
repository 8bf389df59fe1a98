pub mod Edges
pub mod Items
pub mod Merged
pub mod Parts
