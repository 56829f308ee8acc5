pub mod KernelLemmas
pub mod LoadLemmas
pub mod DebugLemmas
