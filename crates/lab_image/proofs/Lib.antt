pub mod MappedLemmas
pub mod SpanLemmas
pub mod TellLemmas
pub mod SourceLemmas
pub mod LineLemmas
pub mod AddressLemmas
pub mod ListLemmas
pub mod MarkLemmas
