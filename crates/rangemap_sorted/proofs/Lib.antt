pub mod HalvingLemmas
pub mod SpliceLemmas
pub mod CoveringLemmas
pub mod ChangeLemmas
pub mod OverlapLemmas
pub mod ReadLemmas
pub mod SideLemmas
pub mod TurnLemmas
