pub mod Reversed
pub mod Pairs
