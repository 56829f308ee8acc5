pub mod LiveLemmas
pub mod FrameLemmas
pub mod StepLemmas
pub mod BoardLemmas
