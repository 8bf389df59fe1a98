pub mod Faults
pub mod Texts
pub mod Json
pub mod Entries
pub mod laws
