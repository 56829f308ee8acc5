pub mod SpacedLemmas
pub mod MurmurLemmas
pub mod FloatLemmas
pub mod DepthLemmas
