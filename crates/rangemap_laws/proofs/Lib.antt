pub mod EqualityLemmas
pub mod GapLemmas
pub mod GivenLemmas
pub mod HandedLemmas
pub mod JoinedLemmas
pub mod OverlapLemmas
pub mod RunLemmas
mod EndLemmas
