pub mod Command
pub mod Ends
