-- Lemmas of the calendar's proofs.
pub mod BookingLemmas
