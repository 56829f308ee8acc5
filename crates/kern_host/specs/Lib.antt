pub mod Guests
pub mod Hosting
pub mod Leaves
pub mod OneHistory
pub mod Visits
pub mod Writes
