pub mod Live
pub mod Frames
pub mod Steps
pub mod BoardSteps
