pub mod Offsets
pub mod Filters
pub mod Board
pub mod Traits
