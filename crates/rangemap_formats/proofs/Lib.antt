pub mod CompareLemmas
pub mod DisplayLemmas
pub mod TextLemmas
pub mod LastPairLemmas
pub mod ReadingLemmas
pub mod WritingLemmas
pub mod RoundTripLemmas
