pub mod SpanLemmas
pub mod HeaderLemmas
pub mod LengthLemmas
pub mod LineLemmas
pub mod LawLemmas
pub mod StreamLemmas
pub mod WritingLemmas
