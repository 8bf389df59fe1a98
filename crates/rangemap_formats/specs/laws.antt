-- Proofs of laws that implementations cite: that an entry tells its parts.
pub mod Entries
