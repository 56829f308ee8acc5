pub mod BracketLemmas
pub mod NameLemmas
pub mod PlainLemmas
pub mod PlainValues
pub mod ReadLemmas
pub mod ValueLemmas
pub mod WordLemmas
