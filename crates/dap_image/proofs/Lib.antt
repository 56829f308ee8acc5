pub mod HexBytes
pub mod Assembled
pub mod Loaded
