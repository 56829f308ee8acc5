pub mod PlaceLemmas
pub mod InfoLemmas
pub mod ToldLemmas
pub mod WatchLemmas
pub mod BreakLemmas
