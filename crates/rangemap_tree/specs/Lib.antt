pub mod Starts
pub mod Sides
