pub mod MapHistories
