pub mod Hits
pub mod Conditions
pub mod Changes
pub mod Counts
pub mod Tallies
pub mod Stops
pub mod Logs
pub mod SliceEnds
