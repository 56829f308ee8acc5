pub mod RunLemmas
pub mod RequestLemmas
pub mod RecordedLemmas
pub mod TravelLemmas
pub mod SliceLemmas
pub mod SearchLemmas
