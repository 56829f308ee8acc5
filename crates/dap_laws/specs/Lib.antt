pub mod Recorded
pub mod Points
