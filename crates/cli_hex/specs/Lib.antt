pub mod Answer
pub mod Binary
pub mod HexOutput
pub mod ListOutput
