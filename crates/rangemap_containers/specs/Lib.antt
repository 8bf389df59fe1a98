pub mod Histories
pub mod Updates
