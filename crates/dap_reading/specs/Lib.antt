pub mod Argument
pub mod Answer
pub mod EditorArgument
pub mod Table
pub mod Reading
