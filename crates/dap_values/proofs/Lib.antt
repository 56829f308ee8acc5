pub mod ShownLemmas
pub mod TargetLemmas
pub mod ValueLemmas
pub mod ChangeLemmas
