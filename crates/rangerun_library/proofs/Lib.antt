-- Lemmas of the program's proofs.
pub mod Ascii
pub mod Division
pub mod Ends
pub mod Reading
