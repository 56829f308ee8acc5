pub mod Each
pub mod Encoded
pub mod OnlyEncoding
pub mod DecodeLemmas
pub mod RowLemmas
pub mod AliasLemmas
