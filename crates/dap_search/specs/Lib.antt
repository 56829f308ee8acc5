pub mod Goals
pub mod Recounts
pub mod Scans
pub mod Searches
