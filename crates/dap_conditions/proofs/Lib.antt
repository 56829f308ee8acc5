pub mod HitLemmas
pub mod HitLawLemmas
