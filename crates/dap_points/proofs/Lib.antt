pub mod BoardLemmas
pub mod KindLemmas
