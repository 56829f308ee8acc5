pub mod FloatLemmas
pub mod DepthLemmas
pub mod PathLemmas
pub mod Base64Lemmas
