pub mod LawLemmas
pub mod OpeningLemmas
pub mod OutputLemmas
pub mod PerformLemmas
pub mod PostingLemmas
pub mod ServeLemmas
pub mod SessionLemmas
