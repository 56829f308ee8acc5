pub mod Ends
pub mod Houses
