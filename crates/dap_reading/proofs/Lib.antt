pub mod GranularityLemmas
pub mod ListLemmas
