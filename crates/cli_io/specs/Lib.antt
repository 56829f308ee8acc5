pub mod HexInput
pub mod HexState
pub mod Engine
pub mod Report
pub mod Streams
pub mod TextState
pub mod Command
pub mod Pouring
