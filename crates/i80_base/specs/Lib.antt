pub mod FlagValues
pub mod Arithmetic
pub mod Codes
pub mod Rows
pub mod AliasRows
pub mod Instructions
