pub mod Tree
pub mod TreeCode
pub mod Value
