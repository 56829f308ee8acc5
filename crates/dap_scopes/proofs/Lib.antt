pub mod FrameLemmas
pub mod ListLemmas
pub mod CompletionLemmas
pub mod SymbolLemmas
pub mod RowLemmas
