pub mod ChangeLemmas
pub mod CountLemmas
pub mod LogLemmas
pub mod SliceLemmas
pub mod StopLemmas
pub mod TallyLemmas
pub mod ValueLemmas
