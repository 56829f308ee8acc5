pub mod Json
pub mod Sources
pub mod Instructions
