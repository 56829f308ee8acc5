pub mod ImageLemmas
pub mod AsmLemmas
