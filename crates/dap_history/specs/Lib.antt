pub mod Logs
pub mod Runs
pub mod Spacing
pub mod Histories
