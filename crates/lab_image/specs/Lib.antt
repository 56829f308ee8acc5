pub mod Loads
pub mod Mapped
pub mod Spans
pub mod Sources
pub mod Addresses
pub mod Breakpoints
