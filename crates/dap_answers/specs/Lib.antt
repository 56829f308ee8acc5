pub mod Json
pub mod Object
pub mod Murmur
pub mod Refusals
