pub mod Changes
pub mod Overlaps
pub mod Sides
