pub mod Command
pub mod Answer
