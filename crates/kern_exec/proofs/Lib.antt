pub mod ListLemmas
pub mod BoardLemmas
