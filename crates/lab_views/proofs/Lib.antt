pub mod ListLemmas
pub mod CodeLemmas
pub mod StackLemmas
pub mod NameLemmas
pub mod RowLemmas
pub mod ValueLemmas
