pub mod CourseLemmas
pub mod EventLemmas
pub mod RequestLemmas
pub mod StopLemmas
