pub mod History
pub mod Tickets
pub mod Seen
pub mod Turns
pub mod Uses
