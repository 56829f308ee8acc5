pub mod Letters
pub mod Executions
pub mod Ends
pub mod Prepared
pub mod Boards
