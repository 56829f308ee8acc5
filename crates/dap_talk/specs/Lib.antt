pub mod Argument
pub mod Table
pub mod Answer
pub mod Reading
pub mod Fault
