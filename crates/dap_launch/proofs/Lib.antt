pub mod Launched
pub mod LoadLemmas
