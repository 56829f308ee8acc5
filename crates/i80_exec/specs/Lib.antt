pub mod State
pub mod Effect
pub mod Step
pub mod Opcodes
