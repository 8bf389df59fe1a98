pub mod CoveredLemmas
mod MeetLemmas
pub mod ReplayLemmas
mod NothingLemmas
mod UpdateLemmas
