pub mod Points
pub mod Placed
pub mod Boards
pub mod Changes
pub mod Kinds
