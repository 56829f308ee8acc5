pub mod EventLemmas
pub mod CommandLemmas
pub mod FarLemmas
