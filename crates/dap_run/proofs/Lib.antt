pub mod WordLemmas
pub mod ChangeLemmas
pub mod SliceLemmas
