pub mod BeforeLemmas
pub mod DisassemblyLemmas
pub mod CodeLineLemmas
