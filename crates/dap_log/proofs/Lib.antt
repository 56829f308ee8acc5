pub mod LawLemmas
pub mod PieceLemmas
pub mod PlainLemmas
pub mod ReadLemmas
pub mod SpellingLemmas
