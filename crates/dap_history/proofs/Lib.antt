pub mod LogLemmas
pub mod RunLemmas
pub mod ReplayLemmas
pub mod HistoryLemmas
pub mod SpacingLemmas
