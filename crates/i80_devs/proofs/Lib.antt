pub mod PastLemmas
pub mod ConsoleLemmas
