pub mod Bytes
pub mod FirstLine
pub mod Law
pub mod Runs
pub mod Text
