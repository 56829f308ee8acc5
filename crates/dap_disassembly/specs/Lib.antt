pub mod Instructions
pub mod Disassembly
pub mod Labels
pub mod Targets
pub mod CodeLines
