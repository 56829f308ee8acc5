pub mod Fields
pub mod Recordings
pub mod Backward
pub mod Turns
pub mod Slices
pub mod Represents
pub mod Noting
