pub mod Prompt
pub mod Inputs
pub mod Answers
pub mod Effects
