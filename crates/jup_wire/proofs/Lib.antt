pub mod SignatureLemmas
pub mod JsonLemmas
pub mod WireLemmas
pub mod VerdictLemmas
pub mod SealLemmas
pub mod PartLemmas
pub mod DateLemmas
pub mod AddressLemmas
